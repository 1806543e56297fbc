-- Laying down, step by step, as a store does it: outer list, inner list, then the vertex itself is found or appended.
use Rattle.std.proofs.Common.{◌≡◌, ℕ, suc, ◌+◌, ◌<◌, ◌≤◌, Bool, true, false, ◌≢◌, ◌⊎◌, List, [], ◌∷◌, ◌++◌, length, get_or, Some, sym, refl, ap, ◌∙◌, subst, ap₂, inl, inr, arith, length-append}
use mathlib.Core.Path.{subst⁻¹}
use Rattle.symbols.specs.Order.{Order}
use Rattle.ledger.specs.Lists.{Codes, none, blank, begun, Comes, SomeCode, Proper}
use Rattle.ledger.specs.declared.Vertex.{Vertex}
use Rattle.ledger.specs.Diagrams.{look, Good, Sound}
use Rattle.ledger.specs.Ledger.{listed, position, number, lay, list_in, lists, codes}
use Rattle.ledger.specs.Laid.{Laid}
use Rattle.ledger.proofs.Reading.{true_false}
use Rattle.ledger.proofs.Canon.{Kind, is_0, is_1, is_vertex, kind, vertex_good}
use Rattle.ledger.proofs.Ends.{length_snoc, get_or_last}
use Rattle.ledger.proofs.Rows.{both_ways, Known, Ledger, known_list, number_list, list_front, lay_held, lay_new, lay_known, lay_adds, position_below, get_or_position, still_new}
use Rattle.ledger.proofs.Drawn.{Pictured, pictured, look_cases, draw_append}
use Rattle.ledger.proofs.Parts.{held_both}

module _ {S : Type 0} (before : S → S → Bool) (order : Order before) where
  -- in a ledger, laying down may always begin with the outer and the inner list
  pub lay_found : {row : List (Codes S)} → Ledger before row → (a : S) (z o : Codes S) → listed before (lay before (lay before row z) o) (begun a z o) ≡ true →
      lay before row (begun a z o) ≡ lay before (lay before row z) o
  lay_found {row} L a z o h = by (both_ways (listed before row (begun a z o)))
    where
      by : (listed before row (begun a z o) ≡ true) ⊎ (listed before row (begun a z o) ≡ false) → lay before row (begun a z o) ≡ lay before (lay before row z) o
      by (inl e) =
          let k = held_both before order L (begun a z o) e in
          lay_held before order row a z o e ∙ sym (lay_known before order row o k.1) ∙ ap (λ r. lay before r o) (sym (lay_known before order row z k.0))
      by (inr e) = absurd (true_false h (still_new before order row a z o e))

  pub lay_append : {row : List (Codes S)} → Ledger before row → (a : S) (z o : Codes S) → listed before (lay before (lay before row z) o) (begun a z o) ≡ false →
      lay before row (begun a z o) ≡ lay before (lay before row z) o ++ begun a z o ∷ []
  lay_append {row} L a z o h = by (both_ways (listed before row (begun a z o)))
    where
      by : (listed before row (begun a z o) ≡ true) ⊎ (listed before row (begun a z o) ≡ false) → lay before row (begun a z o) ≡ lay before (lay before row z) o ++ begun a z o ∷ []
      by (inl e) =
          let k = held_both before order L (begun a z o) e in
          let same_row : lay before (lay before row z) o ≡ row = ap (λ r. lay before r o) (lay_known before order row z k.0) ∙ lay_known before order row o k.1 in
          absurd (true_false (rw same_row e) h)
      by (inr e) = lay_new before order row a z o e

  -- a row of vertices with one more
  module _ (vs : List (Vertex S)) (sound : Sound before vs) (v : Vertex S) (zero_good : Good vs v.zero) (one_good : Good vs v.one) (one_not : v.one ≢ 0)
      (comes : (w : Vertex S) → look vs v.zero ≡ Some w → before v.label w.label ≡ true) (not_found : (n : ℕ) → look vs n ≡ Some v → ⊥) where
    -- a vertex of the longer row, at a good number, is one of the shorter
    old_look : (n : ℕ) (w : Vertex S) → n ≤ length vs + 1 → look (vs ++ v ∷ []) n ≡ Some w → look vs n ≡ Some w
    old_look n w h e = by (look_cases before order vs v n w e)
      where
        by : (look vs n ≡ Some w) ⊎ ((n ≡ suc (suc (length vs))) × (v ≡ w)) → look vs n ≡ Some w
        by (inl p) = p
        by (inr p) = absurd (omega (arith, p.0))

    pub sound_more : Sound before (vs ++ v ∷ [])
    sound_more =
        record {
          formed =
              record {
                zero_below = λ n w e. zero_below' n w (look_cases before order vs v n w e);
                one_below = λ n w e. one_below' n w (look_cases before order vs v n w e);
                one_not_0 = λ n w e. one_not' n w (look_cases before order vs v n w e);
                later = λ n w u e f. later' n w u f (look_cases before order vs v n w e);
              };
          different = λ m n w e f. different' m n w (look_cases before order vs v m w e) (look_cases before order vs v n w f);
        }
      where
        Where : ℕ → Vertex S → Type 0
        Where n w = (look vs n ≡ Some w) ⊎ ((n ≡ suc (suc (length vs))) × (v ≡ w))

        zero_below' : (n : ℕ) (w : Vertex S) → Where n w → w.zero < n
        zero_below' n w (inl p) = sound.formed.zero_below n w p
        zero_below' n w (inr p) = let e : v.zero ≡ w.zero = ap (λ (x : Vertex S). x.zero) p.1 in omega (arith, p.0)

        one_below' : (n : ℕ) (w : Vertex S) → Where n w → w.one < n
        one_below' n w (inl p) = sound.formed.one_below n w p
        one_below' n w (inr p) = let e : v.one ≡ w.one = ap (λ (x : Vertex S). x.one) p.1 in omega (arith, p.0)

        one_not' : (n : ℕ) (w : Vertex S) → Where n w → w.one ≢ 0
        one_not' n w (inl p) = sound.formed.one_not_0 n w p
        one_not' n w (inr p) = λ e. one_not (ap (λ (x : Vertex S). x.one) p.1 ∙ e)

        later' : (n : ℕ) (w u : Vertex S) → look (vs ++ v ∷ []) w.zero ≡ Some u → Where n w → before w.label u.label ≡ true
        later' n w u f (inl p) =
            let h = sound.formed.zero_below n w p in
            let g : Good vs n = vertex_good vs n w p in
            sound.formed.later n w u p (old_look w.zero u (omega arith) f)
        later' n w u f (inr p) =
            let e : v.zero ≡ w.zero = ap (λ (x : Vertex S). x.zero) p.1 in
            subst (λ (x : Vertex S). before x.label u.label ≡ true) p.1 (comes u (old_look v.zero u zero_good (subst⁻¹ (λ n. look (vs ++ v ∷ []) n ≡ Some u) e f)))

        different' : (m n : ℕ) (w : Vertex S) → Where m w → Where n w → m ≡ n
        different' m n w (inl p) (inl q) = sound.different m n w p q
        different' m n w (inl p) (inr q) = absurd (not_found m (p ∙ ap Some (sym q.1)))
        different' m n w (inr p) (inl q) = absurd (not_found n (q ∙ ap Some (sym p.1)))
        different' m n w (inr p) (inr q) = p.0 ∙ sym q.0

  -- which vertex a number's list shows
  pub vertex_of : (vs : List (Vertex S)) → Sound before vs → (j : ℕ) → Good vs j → (a : S) (m n : ℕ) → Good vs m → Good vs n →
      codes vs j ≡ begun a (codes vs m) (codes vs n) → look vs j ≡ Some (record { label = a; zero = m; one = n })
  vertex_of vs s j gj a m n gm gn here = by (kind vs j gj)
    where
      P : Pictured before order vs
      P = pictured before order vs s

      number_of : (k : ℕ) → Good vs k → number before (lists vs) (codes vs k) ≡ k
      number_of k g = number_list before order P.ledger k (omega (arith, P.long))

      by : Kind vs j → look vs j ≡ Some (record { label = a; zero = m; one = n })
      by (is_0 e) = let f : none ≡ begun a (codes vs m) (codes vs n) = ap (codes vs) (sym e) ∙ here in cc
      by (is_1 e) = let f : blank ≡ begun a (codes vs m) (codes vs n) = ap (codes vs) (sym e) ∙ here in cc
      by (is_vertex w p) =
          let there = P.unfolds j w p in
          let wz = s.formed.zero_below j w p in
          let wo = s.formed.one_below j w p in
          let l : w.label ≡ a = cc in
          let z : codes vs w.zero ≡ codes vs m = cc in
          let o : codes vs w.one ≡ codes vs n = cc in
          let zn : w.zero ≡ m = sym (number_of w.zero (omega arith)) ∙ ap (number before (lists vs)) z ∙ number_of m gm in
          let on : w.one ≡ n = sym (number_of w.one (omega arith)) ∙ ap (number before (lists vs)) o ∙ number_of n gn in
          p ∙ (λ i. Some (record { label = l i; zero = zn i; one = on i }))

  -- what has a number is laid down already
  pub laid_known : (vs : List (Vertex S)) → Sound before vs → (n : ℕ) → Good vs n → Laid before vs (codes vs n) vs n
  laid_known vs s n g =
      let P = pictured before order vs s in
      record { sound = s; row = sym (lay_known before order (lists vs) (codes vs n) (known_list before order (lists vs) n (omega (arith, P.long)))); good = g; is = refl }

  module _ (vs us ws : List (Vertex S)) (sv : Sound before vs) (z o : Codes S) (rz ro : ℕ) (outer : Laid before vs z us rz) (inner : Laid before us o ws ro) (a : S) where
    rows : lists ws ≡ lay before (lay before (lists vs) z) o
    rows = inner.row ∙ ap (λ r. lay before r o) outer.row

    -- the outer list keeps its number
    added : (more : List (Codes S)) × (lists ws ≡ lists us ++ more)
    added = let r = lay_adds before order (lists us) o in (r.0, inner.row ∙ r.1)

    longer : length us ≤ length ws
    longer =
        let p = (pictured before order us outer.sound).long in
        let q = (pictured before order ws inner.sound).long in
        let r = ap length added.1 ∙ length-append (lists us) added.0 in
        omega arith

    outer_good : Good ws rz
    outer_good = omega (arith, outer.good, longer)

    outer_is : codes ws rz ≡ z
    outer_is =
        let p = (pictured before order us outer.sound).long in
        ap (λ r. list_in r rz) added.1 ∙ list_front before order (lists us) added.0 rz (omega (arith, outer.good)) ∙ outer.is

    new : Vertex S
    new = record { label = a; zero = rz; one = ro }

    held_there : (k : ℕ) → Good ws k → codes ws k ≡ begun a z o → listed before (lists ws) (begun a z o) ≡ true
    held_there k g e =
        let P = pictured before order ws inner.sound in
        subst (Known before (lists ws)) e (known_list before order (lists ws) k (omega (arith, P.long)))

    -- the vertex is there
    pub laid_found : (k : ℕ) → look ws k ≡ Some (record { label = a; zero = rz; one = ro }) → Laid before vs (begun a z o) ws k
    laid_found k e =
        let P = pictured before order ws inner.sound in
        let g : Good ws k = vertex_good ws k _ e in
        let is : codes ws k ≡ begun a z o = P.unfolds k _ e ∙ ap₂ (begun a) outer_is inner.is in
        record {
          sound = inner.sound;
          row = rows ∙ sym (lay_found (pictured before order vs sv).ledger a z o (subst (λ r. listed before r (begun a z o) ≡ true) rows (held_there k g is)));
          good = g;
          is = is;
        }

    -- the vertex is not there, and is appended
    module _ (not_found : (k : ℕ) → look ws k ≡ Some (record { label = a; zero = rz; one = ro }) → ⊥) (proper : Proper before (begun a z o)) where
      one_not : ro ≢ 0
      one_not e = subst SomeCode (sym inner.is ∙ ap (codes ws) e) proper.1

      comes : (w : Vertex S) → look ws rz ≡ Some w → before a w.label ≡ true
      comes w e =
          let P = pictured before order ws inner.sound in
          subst (Comes before a) (sym outer_is ∙ P.unfolds rz w e) proper.0

      sound_after : Sound before (ws ++ record { label = a; zero = rz; one = ro } ∷ [])
      sound_after = sound_more ws inner.sound (record { label = a; zero = rz; one = ro }) outer_good inner.good one_not comes not_found

      lists_after : lists (ws ++ record { label = a; zero = rz; one = ro } ∷ []) ≡ lists ws ++ begun a z o ∷ []
      lists_after = draw_append [] ws (record { label = a; zero = rz; one = ro } ∷ []) ∙ ap₂ (λ y p. lists ws ++ begun a y p ∷ []) outer_is inner.is

      -- it was in no list: its vertex would have been found
      not_held : listed before (lists ws) (begun a z o) ≡ true → ⊥
      not_held h =
          let P = pictured before order ws inner.sound in
          let small = position_below before order (lists ws) (begun a z o) h in
          let here = get_or_position before order (lists ws) (begun a z o) none h in
          let r = vertex_of ws inner.sound (suc (suc (position before (lists ws) (begun a z o)))) (omega (arith, P.long)) a rz ro outer_good inner.good
          (here ∙ ap₂ (begun a) (sym outer_is) (sym inner.is)) in
          not_found (suc (suc (position before (lists ws) (begun a z o)))) r

      pub laid_append : Laid before vs (begun a z o) (ws ++ record { label = a; zero = rz; one = ro } ∷ []) (suc (suc (length ws)))
      laid_append =
          record {
            sound = sound_after;
            row = lists_after ∙ ap (λ r. r ++ begun a z o ∷ []) rows ∙ sym (lay_append (pictured before order vs sv).ledger a z o (away (both_ways _)));
            good = let l = length_snoc ws (record { label = a; zero = rz; one = ro }) in omega arith;
            is =
                let P = pictured before order ws inner.sound in
                ap (λ r. list_in r (suc (suc (length ws)))) lists_after ∙ subst (λ k. get_or (lists ws ++ begun a z o ∷ []) k none ≡ begun a z o) P.long (get_or_last (lists ws) (begun a z o) none);
          }
        where
          away : (listed before (lay before (lay before (lists vs) z) o) (begun a z o) ≡ true) ⊎ (listed before (lay before (lay before (lists vs) z) o) (begun a z o) ≡ false) →
              listed before (lay before (lay before (lists vs) z) o) (begun a z o) ≡ false
          away (inl h) = absurd (not_held (subst⁻¹ (λ r. listed before r (begun a z o) ≡ true) rows h))
          away (inr h) = h
