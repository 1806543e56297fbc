-- Laying down on vertices, a step at a time, is what the ledger says. What a walk that lays down cites stands here: the
-- codes of numbers in any row, an equal vertex found or appended, and what laying a list down leaves.
use Rattle.std.proofs.Common.{◌≡◌, ℕ, zero, suc, ◌+◌, ◌<◌, ◌≤◌, Bool, true, false, cond, ◌&&◌, eqb, ◌⊎◌, List, [], ◌∷◌, ◌++◌, length, Some, None, Ok, Err, Option, sym, refl, ap, ◌∙◌, subst, inl, inr, append_assoc, append-nil, arith, length-append, eq-eqb, eqb-true}
use Rattle.std.specs.List.{slice_get}
use Rattle.symbols.specs.Order.{Order, same_symbol}
use Rattle.ledger.specs.Lists.{Codes, none, blank, begun, Proper}
use Rattle.ledger.specs.declared.Vertex.{Vertex}
use Rattle.ledger.specs.Diagrams.{look, Good, Sound}
use Rattle.ledger.specs.Ledger.{lay, lists, codes, down, down_number, Lays}
use Rattle.ledger.specs.Laid.{Laid, First, same_vertex, found, Placed, or_new, placed, laying}
use Rattle.ledger.proofs.Reading.{none_some, some_same, true_false}
use Rattle.ledger.proofs.Sets.{and_left, and_right, symbol_same, symbol_self}
use Rattle.ledger.proofs.Rows.{both_ways}
pub use Rattle.ledger.proofs.Draws.{terminal, lists_long, codes_front, codes_unfold, codes_formed}
use Rattle.ledger.proofs.Drawn.{codes_proper}
use Rattle.ledger.proofs.Laying.{laid_known, laid_found, laid_append}
use Rattle.ledger.proofs.Downs.{laid_is}

module _ {S : Type 0} (before : S → S → Bool) (order : Order before) where
  -- equal vertices
  pub vertex_same : (v w : Vertex S) → same_vertex before v w ≡ true → v ≡ w
  vertex_same v w e =
      let links = eqb v.zero w.zero && eqb v.one w.one in
      let r = and_right (same_symbol before v.label w.label) links e in
      let l = symbol_same before order v.label w.label (and_left (same_symbol before v.label w.label) links e) in
      let z = eqb-true v.zero w.zero (and_left (eqb v.zero w.zero) (eqb v.one w.one) r) in
      let o = eqb-true v.one w.one (and_right (eqb v.zero w.zero) (eqb v.one w.one) r) in
      λ i. record { label = l i; zero = z i; one = o i }

  pub vertex_self : (v : Vertex S) → same_vertex before v v ≡ true
  vertex_self v = rw (symbol_self before order v.label, eq-eqb v.zero v.zero refl, eq-eqb v.one v.one refl)

  -- the lowest number of an equal vertex
  found_at : (n : ℕ) (vs : List (Vertex S)) (v : Vertex S) (k : ℕ) → slice_get vs k ≡ Some v → ((j : ℕ) → j < k → slice_get vs j ≡ Some v → ⊥) → found before n vs v ≡ Some (n + k)
  unfolding found
  found_at n [] v k e low = absurd (none_some refl e)
  found_at n (w ∷ vs) v zero e low =
      let p : w ≡ v = some_same refl e in
      ap (λ b. cond b (Some n) (found before (suc n) vs v)) (subst (λ (u : Vertex S). same_vertex before u v ≡ true) (sym p) (vertex_self v)) ∙ ap Some (omega arith)
  found_at n (w ∷ vs) v (suc k) e low = by (both_ways (same_vertex before w v)) (found_at (suc n) vs v k e (λ j h p. low (suc j) (omega arith) p))
    where
      by : (same_vertex before w v ≡ true) ⊎ (same_vertex before w v ≡ false) → found before (suc n) vs v ≡ Some (suc n + k) →
          cond (same_vertex before w v) (Some n) (found before (suc n) vs v) ≡ Some (n + suc k)
      by (inl p) below = absurd (low 0 (omega arith) (ap Some (vertex_same w v p)))
      by (inr p) below = ap (λ b. cond b (Some n) (found before (suc n) vs v)) p ∙ below ∙ ap Some (omega arith)

  found_away : (n : ℕ) (vs : List (Vertex S)) (v : Vertex S) → ((j : ℕ) → slice_get vs j ≡ Some v → ⊥) → found before n vs v ≡ None
  unfolding found
  found_away n [] v away = refl
  found_away n (w ∷ vs) v away = by (both_ways (same_vertex before w v)) (found_away (suc n) vs v (λ j p. away (suc j) p))
    where
      by : (same_vertex before w v ≡ true) ⊎ (same_vertex before w v ≡ false) → found before (suc n) vs v ≡ None → cond (same_vertex before w v) (Some n) (found before (suc n) vs v) ≡ None
      by (inl p) below = absurd (away 0 (ap Some (vertex_same w v p)))
      by (inr p) below = ap (λ b. cond b (Some n) (found before (suc n) vs v)) p ∙ below

  -- what a shelf's search answers is what `found` is
  pub first_found : (vs : List (Vertex S)) (v : Vertex S) (r : Option ℕ) → First vs v r → found before 2 vs v ≡ r
  first_found vs v None f = found_away 2 vs v (λ j p. f (suc (suc j)) p)
  first_found vs v (Some zero) f = absurd (none_some refl f.0)
  first_found vs v (Some (suc zero)) f = absurd (none_some refl f.0)
  first_found vs v (Some (suc (suc k))) f = found_at 2 vs v k f.0 (λ j h p. f.1 (suc (suc j)) (omega arith) p) ∙ ap Some (omega arith)

  found_cases : (n : ℕ) (vs : List (Vertex S)) (v : Vertex S) →
      ((k : ℕ) × (found before n vs v ≡ Some (n + k)) × (slice_get vs k ≡ Some v)) ⊎ ((found before n vs v ≡ None) × ((j : ℕ) → slice_get vs j ≡ Some v → ⊥))
  unfolding found
  found_cases n [] v = inr (refl, λ j e. none_some refl e)
  found_cases n (w ∷ vs) v = by (both_ways (same_vertex before w v)) (found_cases (suc n) vs v)
    where
      All : Type 0
      All =
          ((k : ℕ) × (cond (same_vertex before w v) (Some n) (found before (suc n) vs v) ≡ Some (n + k)) × (slice_get (w ∷ vs) k ≡ Some v)) ⊎
          ((cond (same_vertex before w v) (Some n) (found before (suc n) vs v) ≡ None) × ((j : ℕ) → slice_get (w ∷ vs) j ≡ Some v → ⊥))

      none_there : same_vertex before w v ≡ false → ((j : ℕ) → slice_get vs j ≡ Some v → ⊥) → (j : ℕ) → slice_get (w ∷ vs) j ≡ Some v → ⊥
      none_there p away zero e = true_false (subst (λ (u : Vertex S). same_vertex before u v ≡ true) (sym (some_same refl e)) (vertex_self v)) p
      none_there p away (suc j) e = away j e

      by : (same_vertex before w v ≡ true) ⊎ (same_vertex before w v ≡ false) →
          ((k : ℕ) × (found before (suc n) vs v ≡ Some (suc n + k)) × (slice_get vs k ≡ Some v)) ⊎ ((found before (suc n) vs v ≡ None) × ((j : ℕ) → slice_get vs j ≡ Some v → ⊥)) → All
      by (inl p) below = inl (0, ap (λ b. cond b (Some n) (found before (suc n) vs v)) p ∙ ap Some (omega arith), ap Some (vertex_same w v p))
      by (inr p) (inl r) = inl (suc r.0, ap (λ b. cond b (Some n) (found before (suc n) vs v)) p ∙ r.1 ∙ ap Some (omega arith), r.2)
      by (inr p) (inr r) = inr (ap (λ b. cond b (Some n) (found before (suc n) vs v)) p ∙ r.0, none_there p r.1)

  -- an equal vertex, old or new
  pub placed_old : (vs : List (Vertex S)) (v : Vertex S) (n : ℕ) → First vs v (Some n) → placed before vs v ≡ (vs, n)
  unfolding placed
  placed_old vs v n f = ap (or_new vs v) (first_found vs v (Some n) f)

  pub placed_new : (vs : List (Vertex S)) (v : Vertex S) → First vs v None → placed before vs v ≡ (vs ++ v ∷ [], length vs + 2)
  unfolding placed
  placed_new vs v f = let e : suc (suc (length vs)) ≡ length vs + 2 = omega arith in ap (or_new vs v) (first_found vs v None f) ∙ ap (λ n. (vs ++ v ∷ [], n)) e

  -- what holds of an old equal vertex, and of a new one, holds
  pub placed_by : (P : Placed S → Type 0) (vs : List (Vertex S)) (v : Vertex S) → ((k : ℕ) → look vs k ≡ Some v → P (vs, k)) →
      (((k : ℕ) → look vs k ≡ Some v → ⊥) → P (vs ++ v ∷ [], suc (suc (length vs)))) → P (placed before vs v)
  unfolding placed
  placed_by P vs v old new = by (found_cases 2 vs v)
    where
      nowhere : ((j : ℕ) → slice_get vs j ≡ Some v → ⊥) → (k : ℕ) → look vs k ≡ Some v → ⊥
      nowhere away zero e = none_some refl e
      nowhere away (suc zero) e = none_some refl e
      nowhere away (suc (suc k)) e = away k e

      by : ((k : ℕ) × (found before 2 vs v ≡ Some (2 + k)) × (slice_get vs k ≡ Some v)) ⊎ ((found before 2 vs v ≡ None) × ((j : ℕ) → slice_get vs j ≡ Some v → ⊥)) → P (or_new vs v (found before 2 vs v))
      by (inl r) = subst (λ (x : Option ℕ). P (or_new vs v x)) (sym (r.1 ∙ ap Some (omega arith))) (old (suc (suc r.0)) r.2)
      by (inr r) = subst (λ (x : Option ℕ). P (or_new vs v x)) (sym r.0) (new (nowhere r.1))

  pub placed_more : (vs : List (Vertex S)) (v : Vertex S) → (more : List (Vertex S)) × ((placed before vs v).0 ≡ vs ++ more)
  placed_more vs v = placed_by (λ (s : Placed S). (more : List (Vertex S)) × (s.0 ≡ vs ++ more)) vs v (λ k e. ([], sym (append-nil vs))) (λ away. (v ∷ [], refl))

  -- laying down, by its three forms
  pub laying_none : (vs : List (Vertex S)) → laying before vs none ≡ (vs, 0)
  unfolding laying
  laying_none vs = refl

  pub laying_blank : (vs : List (Vertex S)) → laying before vs blank ≡ (vs, 1)
  unfolding laying
  laying_blank vs = refl

  pub laying_begun : (vs : List (Vertex S)) (a : S) (z o : Codes S) (outer inner : Placed S) → laying before vs z ≡ outer → laying before outer.0 o ≡ inner →
      laying before vs (begun a z o) ≡ placed before inner.0 (record { label = a; zero = outer.1; one = inner.1 })
  unfolding laying
  laying_begun vs a z o outer inner p q =
      ap (λ (x : Placed S). placed before (laying before x.0 o).0 (record { label = a; zero = x.1; one = (laying before x.0 o).1 })) p ∙
      ap (λ (y : Placed S). placed before y.0 (record { label = a; zero = outer.1; one = y.1 })) q

  -- it only appends
  pub laying_more : (vs : List (Vertex S)) (t : Codes S) → (more : List (Vertex S)) × ((laying before vs t).0 ≡ vs ++ more)
  unfolding laying
  laying_more vs none = ([], sym (append-nil vs))
  laying_more vs blank = ([], sym (append-nil vs))
  laying_more vs (begun a z o) =
      let outer = laying before vs z in
      let inner = laying before outer.0 o in
      let p = laying_more vs z in
      let q = laying_more outer.0 o in
      let r = placed_more inner.0 (record { label = a; zero = outer.1; one = inner.1 }) in (
        p.0 ++ (q.0 ++ r.0),
        r.1 ∙ ap (λ (x : List (Vertex S)). x ++ r.0) (q.1 ∙ ap (λ (x : List (Vertex S)). x ++ q.0) p.1) ∙ simp append_assoc,
      )

  -- what laying a list down leaves: sound vertices, whose lists are what the ledger says, and a good number of that list
  pub laying_laid : (vs : List (Vertex S)) (t : Codes S) → Sound before vs → Proper before t → Laid before vs t (laying before vs t).0 (laying before vs t).1
  unfolding laying
  laying_laid vs none s p = laid_known before order vs s 0 (omega arith)
  laying_laid vs blank s p = laid_known before order vs s 1 (omega arith)
  laying_laid vs (begun a z o) s p =
      let outer = laying_laid vs z s p.2 in
      let inner = laying_laid (laying before vs z).0 o outer.sound p.3 in
      let us = (laying before vs z).0 in
      let ws = (laying before us o).0 in
      let m = (laying before vs z).1 in
      let n = (laying before us o).1 in
      placed_by (λ (x : Placed S). Laid before vs (begun a z o) x.0 x.1) ws (record { label = a; zero = m; one = n })
      (laid_found before order vs us ws s z o m n outer inner a)
      (λ away. laid_append before order vs us ws s z o m n outer inner a away p)

  pub laying_is : (vs : List (Vertex S)) (t : Codes S) → Sound before vs → Proper before t → laying before vs t ≡ (down before vs t, down_number before vs t)
  laying_is vs t s p = let e = laid_is before order vs t _ _ (laying_laid vs t s p) in λ i. (e.0 i, e.1 i)

  pub laying_long : (vs : List (Vertex S)) (t : Codes S) → Sound before vs → Proper before t → length (laying before vs t).0 ≡ length (lay before (lists vs) t)
  laying_long vs t s p = sym (lists_long before order (laying before vs t).0) ∙ ap length (laying_laid vs t s p).row

  -- a list that has a number is laid down by nothing
  pub laying_self : (vs : List (Vertex S)) → Sound before vs → (n : ℕ) → Good vs n → laying before vs (codes vs n) ≡ (vs, n)
  laying_self vs s n g =
      let e = laid_is before order vs (codes vs n) vs n (laid_known before order vs s n g) in
      laying_is vs (codes vs n) s (codes_proper before order vs s n g) ∙ (λ i. (sym e.0 i, sym e.1 i))

  pub laying_known : (vs more : List (Vertex S)) → Sound before (vs ++ more) → (n : ℕ) → Good vs n → laying before (vs ++ more) (codes vs n) ≡ (vs ++ more, n)
  laying_known vs more s n g =
      ap (laying before (vs ++ more)) (sym (codes_front before order vs more n g)) ∙ laying_self (vs ++ more) s n (omega (arith, length-append vs more))

  -- a vertex over an old outer list, and one over an old inner list
  pub laying_inner : (vs : List (Vertex S)) → Sound before vs → (a : S) (n : ℕ) (o : Codes S) → Good vs n →
      laying before vs (begun a (codes vs n) o) ≡ placed before (laying before vs o).0 (record { label = a; zero = n; one = (laying before vs o).1 })
  laying_inner vs s a n o g = laying_begun vs a (codes vs n) o (vs, n) (laying before vs o) (laying_self vs s n g) refl

  pub laying_outer : (vs : List (Vertex S)) → Sound before vs → (a : S) (z : Codes S) (n : ℕ) → Proper before z → Good vs n →
      laying before vs (begun a z (codes vs n)) ≡ placed before (laying before vs z).0 (record { label = a; zero = (laying before vs z).1; one = n })
  laying_outer vs s a z n p g =
      let w = laying_more vs z in
      let t : Sound before (vs ++ w.0) = subst (Sound before) w.1 (laying_laid vs z s p).sound in
      laying_begun vs a z (codes vs n) (laying before vs z) ((laying before vs z).0, n) refl
      (subst (λ (ws : List (Vertex S)). laying before ws (codes vs n) ≡ (ws, n)) (sym w.1) (laying_known vs w.0 t n g))

  -- accepted exactly where there is room
  pub lays_down : (F : Type 0) (capacity : ℕ) (vs : List (Vertex S)) (t : Codes S) → Sound before vs → Proper before t → (ws : List (Vertex S)) (n : ℕ) →
      laying before vs t ≡ (ws, n) → length ws ≤ capacity → Lays {F = F} before capacity vs t (Ok n) ws
  lays_down F capacity vs t s p ws n e h =
      let is = sym e ∙ laying_is vs t s p in
      let l = laying_long vs t s p in
      let m = ap (λ (x : Placed S). length x.0) e in
      (omega arith, ap (λ (x : Placed S). x.0) is, ap (λ (x : Placed S). x.1) is)

  pub lays_not : (F : Type 0) (capacity : ℕ) (vs : List (Vertex S)) (t : Codes S) → Sound before vs → Proper before t → (e : F) →
      capacity < length (laying before vs t).0 → Lays {F = F} before capacity vs t (Err e) vs
  lays_not F capacity vs t s p e h = let l = laying_long vs t s p in (omega arith, refl)
