-- The vertices reached from a number are the lists that laying its list down in an empty ledger gives: as many, one for each.
use Rattle.std.proofs.Common.{◌≡◌, ℕ, zero, suc, ◌<◌, Bool, true, false, ◌⊎◌, List, [], ◌∷◌, ◌++◌, map, length, Some, sym, refl, ap, ◌∙◌, subst, inl, inr, arith}
use mathlib.Core.Path.{subst⁻¹}
use mathlib.Core.List.Memᴰ
use mathlib.Core.List.{Memᴰ, map-append}
use lib.ListN.{length-map}
use Rattle.symbols.specs.Order.{Order}
use Rattle.ledger.specs.Lists.{Codes, none, blank, begun, same, Part}
use Rattle.ledger.specs.declared.Vertex.{Vertex}
use Rattle.ledger.specs.Diagrams.{look, Good, Sound, Reached, itself, over_zero, over_one, Apart, Counts}
use Rattle.ledger.specs.Ledger.{listed, number, lay, list_in, lists, codes}
use Rattle.ledger.proofs.Reading.{true_false}
use Rattle.ledger.proofs.Canon.{Kind, is_0, is_1, is_vertex, kind, vertex_good}
use Rattle.ledger.proofs.Sets.{same_equal, same_self}
use Rattle.ledger.proofs.Rows.{both_ways, Known, Ledger, empty_row, one_more, listed_front, listed_last, listed_cases, known_front, known_list, list_number, number_list, lay_knows, lay_ledger, lay_parts}
use Rattle.ledger.proofs.Drawn.{Pictured, pictured, codes_proper}

part_self : {S : Type 0} (t : Codes S) → Part t t
part_self none = refl
part_self blank = refl
part_self (begun a z o) = inl refl

begun_not_none : {S : Type 0} {t : Codes S} {a : S} {z o : Codes S} → t ≡ none → t ≡ begun a z o → ⊥
begun_not_none p q = let x : ◌≡◌ {A = ℕ} 0 1 = cc in omega arith

begun_not_blank : {S : Type 0} {t : Codes S} {a : S} {z o : Codes S} → t ≡ blank → t ≡ begun a z o → ⊥
begun_not_blank p q = let x : ◌≡◌ {A = ℕ} 0 1 = cc in omega arith

apart_more : (ks : List ℕ) (k : ℕ) → Apart ks → (Memᴰ k ks → ⊥) → Apart (ks ++ k ∷ [])
apart_more [] k a out = (λ m. elim m [ ], tt)
apart_more (j ∷ ks) k a out = (λ m. by (Memᴰ.append_cases ks m), apart_more ks k a.1 (λ m. out (Memᴰ.tail m)))
  where
    last : Memᴰ j (k ∷ []) → ⊥
    last (Memᴰ.head e) = out (Memᴰ.head (sym e))
    last (Memᴰ.tail m) = elim m [ ]

    by : Memᴰ j ks ⊎ Memᴰ j (k ∷ []) → ⊥
    by (inl m) = a.0 m
    by (inr m) = last m

module _ {S : Type 0} (before : S → S → Bool) (order : Order before) where
  pub held_in : (row : List (Codes S)) (t : Codes S) → listed before row t ≡ true → Memᴰ t row
  held_in [] t h = absurd (true_false h refl)
  held_in (u ∷ row) t h = by (both_ways (same before u t)) (held_in row t)
    where
      by : (same before u t ≡ true) ⊎ (same before u t ≡ false) → (listed before row t ≡ true → Memᴰ t row) → Memᴰ t (u ∷ row)
      by (inl e) below = Memᴰ.head (sym (same_equal before order u t e))
      by (inr e) below = Memᴰ.tail (below (rw e at h))

  pub in_held : (t : Codes S) (row : List (Codes S)) → Memᴰ t row → listed before row t ≡ true
  in_held t row (Memᴰ.head {x = x} e) = rw (← e, same_self before order t)
  in_held t row (Memᴰ.tail {x = x} {xs = xs} m) =
      elim (same before x t) as (λ b. mathlib.Core.Bool.cond b true (listed before xs t) ≡ true) [ true ↦ refl | false ↦ in_held t xs m ]

  -- a ledger that knows a list knows its outer and inner list
  abbrev pub Both : List (Codes S) → Codes S → Type 0
  Both row none = Unit {0}
  Both row blank = Unit {0}
  Both row (begun a z o) = Known before row z × Known before row o

  pub held_both : {row : List (Codes S)} → Ledger before row → (t : Codes S) → listed before row t ≡ true → Both row t
  held_both (empty_row e) t h = absurd (true_false h (rw e))
  held_both {row} (one_more front a z o e L kz ko p new) t h = by (listed_cases before order front (begun a z o) t (rw e at h)) (held_both L t)
    where
      grow : (u : Codes S) → Both front u → Both row u
      grow none k = tt
      grow blank k = tt
      grow (begun b y q) k = rw e (known_front before order front (begun a z o ∷ []) y k.0, known_front before order front (begun a z o ∷ []) q k.1)

      by : (listed before front t ≡ true) ⊎ (begun a z o ≡ t) → (listed before front t ≡ true → Both front t) → Both row t
      by (inl k) below = grow t (below k)
      by (inr k) below = subst (Both row) k (grow (begun a z o) (kz, ko))

  pub known_part : {row : List (Codes S)} → Ledger before row → (t u : Codes S) → Known before row t → Part t u → Known before row u
  known_part {row} L none u k e = subst (Known before row) e tt
  known_part {row} L blank u k e = subst (Known before row) e tt
  known_part {row} L (begun a z o) u k (inl e) = subst (Known before row) e k
  known_part L (begun a z o) u k (inr (inl p)) = known_part L z u (held_both L (begun a z o) k).0 p
  known_part L (begun a z o) u k (inr (inr p)) = known_part L o u (held_both L (begun a z o) k).1 p

  module _ (vs : List (Vertex S)) (sound : Sound before vs) where
    P : Pictured before order vs
    P = pictured before order vs sound

    -- reached, in lists
    reached_part : {n k : ℕ} → Reached vs n k → Part (codes vs n) (codes vs k)
    reached_part {n} {k} (itself v p e) = subst (λ j. Part (codes vs n) (codes vs j)) e (part_self (codes vs n))
    reached_part {n} {k} (over_zero v p r) = subst⁻¹ (λ t. Part t (codes vs k)) (P.unfolds n v p) (inr (inl (reached_part r)))
    reached_part {n} {k} (over_one v p r) = subst⁻¹ (λ t. Part t (codes vs k)) (P.unfolds n v p) (inr (inr (reached_part r)))

    reached_vertex : {n k : ℕ} → Reached vs n k → (v : Vertex S) × (look vs k ≡ Some v)
    reached_vertex (itself v p e) = (v, ap (look vs) (sym e) ∙ p)
    reached_vertex (over_zero v p r) = reached_vertex r
    reached_vertex (over_one v p r) = reached_vertex r

    part_upto : (b n : ℕ) → n < b → Good vs n → (a : S) (z o : Codes S) → Part (codes vs n) (begun a z o) → (k : ℕ) × Reached vs n k × (codes vs k ≡ begun a z o)
    part_upto zero n h g a z o p = absurd (omega arith)
    part_upto (suc b) n h g a z o p = by (kind vs n g) (part_upto b)
      where
        by : Kind vs n → ((n : ℕ) → n < b → Good vs n → (a : S) (z o : Codes S) → Part (codes vs n) (begun a z o) → (k : ℕ) × Reached vs n k × (codes vs k ≡ begun a z o)) →
            (k : ℕ) × Reached vs n k × (codes vs k ≡ begun a z o)
        by (is_0 e) below = absurd (begun_not_none refl (rw e at p))
        by (is_1 e) below = absurd (begun_not_blank refl (rw e at p))
        by (is_vertex v q) below = split (rw (P.unfolds n v q) at p)
          where
            split : Part (begun v.label (codes vs v.zero) (codes vs v.one)) (begun a z o) → (k : ℕ) × Reached vs n k × (codes vs k ≡ begun a z o)
            split (inl e) = (n, itself v q refl, P.unfolds n v q ∙ e)
            split (inr (inl e)) =
                let small = sound.formed.zero_below n v q in
                let r = below v.zero (omega arith) (omega arith) a z o e in
                (r.0, over_zero v q r.1, r.2)
            split (inr (inr e)) =
                let small = sound.formed.one_below n v q in
                let r = below v.one (omega arith) (omega arith) a z o e in
                (r.0, over_one v q r.1, r.2)

    part_reached : (n : ℕ) → Good vs n → (a : S) (z o : Codes S) → Part (codes vs n) (begun a z o) → (k : ℕ) × Reached vs n k × (codes vs k ≡ begun a z o)
    part_reached n g a z o p = part_upto (suc n) n (omega arith) g a z o p

    number_of : (k : ℕ) → Good vs k → number before (lists vs) (codes vs k) ≡ k
    number_of k g = number_list before order P.ledger k (omega (arith, P.long))

    numbers_apart : {row : List (Codes S)} → Ledger before row → ((u : Codes S) → listed before row u ≡ true → Known before (lists vs) u) → Apart (map (number before (lists vs)) row)
    numbers_apart (empty_row e) known = rw e tt
    numbers_apart {row} (one_more front a z o e L kz ko p new) known =
        rw (e, map-append (number before (lists vs)) front (begun a z o ∷ []))
        (apart_more (map (number before (lists vs)) front) (number before (lists vs) (begun a z o))
        (numbers_apart L (λ u h. known u (rw e (listed_front before order front (begun a z o ∷ []) u h))))
        (λ m.
        let r = Memᴰ.of_map (number before (lists vs)) front m in
        let h : listed before front r.0 ≡ true = in_held r.0 front r.1 in
        let u_known = known r.0 (rw e (listed_front before order front (begun a z o ∷ []) r.0 h)) in
        let x_known = known (begun a z o) (rw e (listed_last before order front (begun a z o))) in
        let one : r.0 ≡ begun a z o =
        sym (list_number before order (lists vs) r.0 u_known) ∙ ap (list_in (lists vs)) r.2 ∙ list_number before order (lists vs) (begun a z o) x_known in
        true_false (rw one at h) new))

    held_begun : {row : List (Codes S)} → Ledger before row → (u : Codes S) → listed before row u ≡ true → (a : S) × (z : Codes S) × (o : Codes S) × (u ≡ begun a z o)
    held_begun (empty_row e) u h = absurd (true_false h (rw e))
    held_begun (one_more front a z o e L kz ko p new) u h = by (listed_cases before order front (begun a z o) u (rw e at h)) (held_begun L u)
      where
        by : (listed before front u ≡ true) ⊎ (begun a z o ≡ u) → (listed before front u ≡ true → (a : S) × (z : Codes S) × (o : Codes S) × (u ≡ begun a z o)) → (a : S) × (z : Codes S) × (o : Codes S) × (u ≡ begun a z o)
        by (inl k) below = below k
        by (inr k) below = (a, z, o, sym k)

    module _ (n : ℕ) (good : Good vs n) where
      laid : List (Codes S)
      laid = lay before [] (codes vs n)

      laid_ledger : Ledger before laid
      unfolding laid
      laid_ledger = lay_ledger before order [] (codes vs n) (empty_row refl) (codes_proper before order vs sound n good)

      laid_part : (u : Codes S) → listed before laid u ≡ true → Part (codes vs n) u
      unfolding laid
      laid_part u h = by (lay_parts before order [] (codes vs n) u h)
        where
          by : (false ≡ true) ⊎ Part (codes vs n) u → Part (codes vs n) u
          by (inl e) = absurd (true_false refl (sym e))
          by (inr p) = p

      laid_known : (u : Codes S) → listed before laid u ≡ true → Known before (lists vs) u
      laid_known u h = known_part P.ledger (codes vs n) u (known_list before order (lists vs) n (omega (arith, P.long))) (laid_part u h)

      is_reached : (k : ℕ) → Memᴰ k (map (number before (lists vs)) laid) → Reached vs n k
      is_reached k m =
          let r = Memᴰ.of_map (number before (lists vs)) laid m in
          let h : listed before laid r.0 ≡ true = in_held r.0 laid r.1 in
          let b = held_begun laid_ledger r.0 h in
          let q = part_reached n good b.0 b.1 b.2 (subst (Part (codes vs n)) b.3 (laid_part r.0 h)) in
          let w = reached_vertex q.1 in
          let same_k : q.0 ≡ k = sym (number_of q.0 (vertex_good vs q.0 w.0 w.1)) ∙ ap (number before (lists vs)) (q.2 ∙ sym b.3) ∙ r.2 in
          subst (Reached vs n) same_k q.1

      all_reached : (k : ℕ) → Reached vs n k → Memᴰ k (map (number before (lists vs)) laid)
      unfolding laid
      all_reached k r =
          let w = reached_vertex r in
          let known : Known before laid (codes vs k) = known_part laid_ledger (codes vs n) (codes vs k) (lay_knows before order [] (codes vs n)) (reached_part r) in
          let is = P.unfolds k w.0 w.1 in
          let held : listed before laid (codes vs k) ≡ true = subst⁻¹ (λ t. listed before laid t ≡ true) is (subst (Known before laid) is known) in
          Memᴰ.cast (sym (number_of k (vertex_good vs k w.0 w.1))) (Memᴰ.map (number before (lists vs)) (held_in laid (codes vs k) held))

      pub reached_many : Counts (Reached vs n) (length (lay before [] (codes vs n)))
      unfolding laid
      reached_many =
          record {
            them = map (number before (lists vs)) laid;
            apart = numbers_apart laid_ledger laid_known;
            sound = is_reached;
            whole = all_reached;
            many = length-map laid (number before (lists vs));
          }
