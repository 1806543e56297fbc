-- There is one row of marks, and only one, that keeps just what is reached from given numbers.
use Rattle.std.proofs.Common.{◌≡◌, ℕ, zero, suc, ◌+◌, ◌<◌, ◌≤◌, Bool, true, false, cond, eqb, ◌⊎◌, ◌↔◌, List, [], ◌∷◌, ◌++◌, map, length, get_or, Some, sym, refl, ap, ◌∙◌, subst, inl, inr, arith, eq-eqb, eqb-true}
use mathlib.Core.List.Memᴰ
use mathlib.Core.List.{Memᴰ}
use mathlib.Core.Logic.Iff
use native.Mathlib.Decide.{dec_le}
use lib.ListN.{length-map}
use Rattle.std.proofs.lemmas.List.{ext_get_or}
use Rattle.symbols.specs.Order.{Order}
use Rattle.ledger.specs.declared.Vertex.{Vertex}
use Rattle.ledger.specs.Diagrams.{look, Good, Sound, Reached, itself, over_zero, over_one}
use Rattle.ledger.specs.Gather.{Marked, Keeps}
use Rattle.ledger.proofs.Reading.{none_some, true_false}
use Rattle.ledger.proofs.Canon.{Kind, is_0, is_1, is_vertex, kind, vertex_good}
use Rattle.ledger.proofs.Rows.{both_ways}
use Rattle.ledger.proofs.Pigeons.{upwards, length_upwards}
use Rattle.ledger.proofs.Parts.{reached_many}

-- a test for membership among numbers
among : ℕ → List ℕ → Bool
among n [] = false
among n (k ∷ ks) = cond (eqb n k) true (among n ks)

among_in : (n : ℕ) (ks : List ℕ) → among n ks ≡ true → Memᴰ n ks
unfolding among
among_in n [] e = absurd (true_false e refl)
among_in n (k ∷ ks) e = by (both_ways (eqb n k)) (among_in n ks)
  where
    by : (eqb n k ≡ true) ⊎ (eqb n k ≡ false) → (among n ks ≡ true → Memᴰ n ks) → Memᴰ n (k ∷ ks)
    by (inl p) below = Memᴰ.head (eqb-true n k p)
    by (inr p) below = Memᴰ.tail (below (rw p at e))

in_among : (n : ℕ) (ks : List ℕ) → Memᴰ n ks → among n ks ≡ true
unfolding among
in_among n ks (Memᴰ.head {x = x} {xs = xs} e) = ap (λ b. cond b true (among n xs)) (eq-eqb n x e)
in_among n ks (Memᴰ.tail {x = x} {xs = xs} m) = elim (eqb n x) as (λ b. cond b true (among n xs) ≡ true) [ true ↦ refl | false ↦ in_among n xs m ]

get_or_upwards : (f : ℕ → Bool) (a n i : ℕ) → i < n → get_or (map f (upwards a n)) i false ≡ f (a + i)
get_or_upwards f a zero i h = absurd (omega arith)
get_or_upwards f a (suc n) zero h = let e : a ≡ a + 0 = omega arith in ap f e
get_or_upwards f a (suc n) (suc i) h = let e : suc a + i ≡ a + suc i = omega arith in get_or_upwards f (suc a) n i (omega arith) ∙ ap f e

-- marks with the same meaning are the same
bool_same : (x y : Bool) → (x ≡ true) ↔ (y ≡ true) → x ≡ y
bool_same true y h = sym (h.0 refl)
bool_same false true h = h.1 refl
bool_same false false h = refl

pub only_marks : {S : Type 0} (vs : List (Vertex S)) (ks : List ℕ) (ms ns : List Bool) → Keeps vs ks ms → Keeps vs ks ns → ms ≡ ns
only_marks {S} vs ks ms ns km kn = ext_get_or false ms ns (km.0 ∙ sym kn.0) (λ i h. at i h (kind vs (suc (suc i)) (omega (arith, km.0))))
  where
    at : (i : ℕ) → i < length ms → Kind vs (suc (suc i)) → get_or ms i false ≡ get_or ns i false
    at i h (is_0 e) = absurd (omega arith)
    at i h (is_1 e) = absurd (omega arith)
    at i h (is_vertex v p) =
        let m = km.1 (suc (suc i)) v p in
        let n = kn.1 (suc (suc i)) v p in
        bool_same (get_or ms i false) (get_or ns i false) (λ e. n.1 (m.0 e), λ e. m.1 (n.0 e))

module _ {S : Type 0} (before : S → S → Bool) (order : Order before) (vs : List (Vertex S)) (sound : Sound before vs) where
  nowhere : {k n : ℕ} → (Good vs k → ⊥) → Reached vs k n → ⊥
  nowhere {k} bad (itself v p e) = bad (vertex_good vs k v p)
  nowhere {k} bad (over_zero v p r) = bad (vertex_good vs k v p)
  nowhere {k} bad (over_one v p r) = bad (vertex_good vs k v p)

  from_one : (k : ℕ) → (them : List ℕ) × ((n : ℕ) → Memᴰ n them ↔ Reached vs k n)
  from_one k = by (dec_le k (length vs + 1))
    where
      by : Dec (k ≤ length vs + 1) → (them : List ℕ) × ((n : ℕ) → Memᴰ n them ↔ Reached vs k n)
      by (yes g) = let r = reached_many before order vs sound k g in (r.them, λ n. (r.sound n, r.whole n))
      by (no g) = ([], λ n. (λ m. elim m [ ], λ r. absurd (nowhere g r)))

  from_all : (ks : List ℕ) → (them : List ℕ) × ((n : ℕ) → Memᴰ n them ↔ ((k : ℕ) × Memᴰ k ks × Reached vs k n))
  from_all [] = ([], λ n. (λ m. elim m [ ], λ h. elim h.1 [ ]))
  from_all (k ∷ ks) =
      let one = from_one k in
      let rest = from_all ks in
      (one.0 ++ rest.0, λ n. (λ m. there one.0 rest.0 n (one.1 n).0 (rest.1 n).0 (Memᴰ.append_cases one.0 m), λ h. back one.0 rest.0 n (one.1 n).1 (λ x. (rest.1 n).1 x) h.0 h.1 h.2))
    where
      there : (one rest : List ℕ) (n : ℕ) → (Memᴰ n one → Reached vs k n) → (Memᴰ n rest → (j : ℕ) × Memᴰ j ks × Reached vs j n) →
          Memᴰ n one ⊎ Memᴰ n rest → (j : ℕ) × Memᴰ j (k ∷ ks) × Reached vs j n
      there one rest n p q (inl m) = (k, Memᴰ.head refl, p m)
      there one rest n p q (inr m) = let r = q m in (r.0, Memᴰ.tail r.1, r.2)

      back : (one rest : List ℕ) (n : ℕ) → (Reached vs k n → Memᴰ n one) → ((j : ℕ) × Memᴰ j ks × Reached vs j n → Memᴰ n rest) →
          (j : ℕ) → Memᴰ j (k ∷ ks) → Reached vs j n → Memᴰ n (one ++ rest)
      back one rest n p q j (Memᴰ.head e) r = Memᴰ.append_left rest (p (subst (λ x. Reached vs x n) e r))
      back one rest n p q j (Memᴰ.tail m) r = Memᴰ.append_right one (q (j, m, r))

  pub some_marks : (ks : List ℕ) → (ms : List Bool) × Keeps vs ks ms
  some_marks ks =
      let all = from_all ks in
      let marks = map (λ n. among n all.0) (upwards 2 (length vs)) in
      (marks, (length-map (upwards 2 (length vs)) (λ n. among n all.0) ∙ length_upwards 2 (length vs), λ n v p. means all.0 ks all.1 n v p))
    where
      means : (them : List ℕ) (ks : List ℕ) → ((n : ℕ) → Memᴰ n them ↔ ((k : ℕ) × Memᴰ k ks × Reached vs k n)) → (n : ℕ) (v : Vertex S) → look vs n ≡ Some v →
          Marked (map (λ n. among n them) (upwards 2 (length vs))) n ↔ ((k : ℕ) × Memᴰ k ks × Reached vs k n)
      means them ks is zero v p = absurd (none_some refl p)
      means them ks is (suc zero) v p = absurd (none_some refl p)
      means them ks is (suc (suc i)) v p =
          let g : Good vs (suc (suc i)) = vertex_good vs (suc (suc i)) v p in
          let e : 2 + i ≡ suc (suc i) = omega arith in
          let here : get_or (map (λ n. among n them) (upwards 2 (length vs))) i false ≡ among (suc (suc i)) them = get_or_upwards (λ n. among n them) 2 (length vs) i (omega arith) ∙ ap (λ n. among n them) e in
          Iff.trans (λ m. among_in (suc (suc i)) them (sym here ∙ m), λ m. here ∙ in_among (suc (suc i)) them m) (is (suc (suc i)))
