-- The vertices that are met, renumbered, are those that laying the list down in an empty ledger gives.
use Rattle.std.proofs.Common.{◌≡◌, ℕ, zero, suc, ◌+◌, ◌<◌, ◌≤◌, Bool, true, List, [], ◌∷◌, ◌++◌, map, length, Some, sym, refl, ap, ◌∙◌, subst, ap₂, arith}
use mathlib.Core.Path.{subst⁻¹}
use mathlib.Core.List.{map-append}
use Rattle.symbols.specs.Order.{Order}
use Rattle.memory.specs.declared.work.Place.{Place}
use Rattle.ledger.specs.declared.Vertex.{Vertex}
use Rattle.ledger.specs.Lists.{Codes, none, blank, begun}
use Rattle.ledger.specs.Diagrams.{Good, Sound}
use Rattle.ledger.specs.Ledger.{listed, position, number, lay, codes, vertices_in, vertices_of, fresh}
use Rattle.ledger.proofs.Canon.{Kind, is_0, is_1, is_vertex, kind}
use Rattle.ledger.proofs.Rows.{Known, Ledger, empty_row, listed_get_or, lay_ledger, lay_knows}
use Rattle.ledger.proofs.Drawn.{Pictured, pictured, codes_proper}
use Rattle.ledger.proofs.Parts.{held_both}
use Rattle.writing.specs.Met.{list_at, met_numbers, Sparse, NewLink}
use Rattle.writing.specs.Records.{Renumbered, Drawn}
use Rattle.writing.proofs.Unwinding.{met_lists, lists_long, lists_at, good_at, stands_met}

vertices_append : {S : Type 0} (before : S → S → Bool) (row ts us : List (Codes S)) → vertices_in before row (ts ++ us) ≡ vertices_in before row ts ++ vertices_in before row us
vertices_append before row [] us = refl
vertices_append before row (none ∷ ts) us = vertices_append before row ts us
vertices_append before row (blank ∷ ts) us = vertices_append before row ts us
vertices_append before row (begun a z o ∷ ts) us = rw (vertices_append before row ts us)

module _ {S : Type 0} (before : S → S → Bool) (order : Order before) (vs : List (Vertex S)) (sound : Sound before vs) (ps : List Place) (m : ℕ) (sparse : Sparse ps m) (size : length ps ≡ length vs)
    (ledger : Ledger before (met_lists vs ps m)) where
  P : Pictured before order vs
  P = pictured before order vs sound

  -- a link's new number is its list's number in the row
  pub link_number : (link r : ℕ) → Good vs link → Known before (met_lists vs ps m) (codes vs link) → NewLink ps m link r → r ≡ number before (met_lists vs ps m) (codes vs link)
  link_number link r g known new = by (kind vs link g)
    where
      by : Kind vs link → r ≡ number before (met_lists vs ps m) (codes vs link)
      by (is_0 e) = new.0 (omega arith) ∙ e ∙ ap (λ n. number before (met_lists vs ps m) (codes vs n)) (sym e)
      by (is_1 e) = new.0 (omega arith) ∙ e ∙ ap (λ n. number before (met_lists vs ps m) (codes vs n)) (sym e)
      by (is_vertex v p) =
          let t = begun v.label (codes vs v.zero) (codes vs v.one) in
          let is : codes vs link ≡ t = P.unfolds link v p in
          let at = stands_met before order vs sound ps m sparse size link t g is (subst (Known before (met_lists vs ps m)) is known) in
          let k = position before (met_lists vs ps m) t in
          let two : k + 2 ≡ suc (suc k) = omega arith in
          new.1 k at.0 at.1 ∙ two ∙ ap (number before (met_lists vs ps m)) (sym is)

  -- one vertex
  drawn_one : (k : ℕ) → k < m → (w : Vertex S) → Renumbered vs ps m k (Some w) → vertices_in before (met_lists vs ps m) (codes vs (list_at ps k) ∷ []) ≡ w ∷ []
  drawn_one k h w (v, p, label, zero_new, one_new) =
      let row = met_lists vs ps m in
      let is : codes vs (list_at ps k) ≡ begun v.label (codes vs v.zero) (codes vs v.one) = P.unfolds (list_at ps k) v p in
      let there : listed before row (begun v.label (codes vs v.zero) (codes vs v.one)) ≡ true =
      subst (λ t. listed before row t ≡ true) (lists_at before order vs sound ps m sparse size k h ∙ is)
      (listed_get_or before order row k none (omega (arith, lists_long before order vs sound ps m sparse size))) in
      let both = held_both before order ledger (begun v.label (codes vs v.zero) (codes vs v.one)) there in
      let g = good_at before order vs sound ps m sparse size k h in
      let gz : Good vs v.zero = (let b = sound.formed.zero_below (list_at ps k) v p in omega arith) in
      let go : Good vs v.one = (let b = sound.formed.one_below (list_at ps k) v p in omega arith) in
      let z = link_number v.zero w.zero gz both.0 zero_new in
      let o = link_number v.one w.one go both.1 one_new in
      ap (λ t. vertices_in before row (t ∷ [])) is ∙ (λ i. record { label = sym label i; zero = sym z i; one = sym o i } ∷ [])

  pub drawn_all : (k : ℕ) → k ≤ m → (ws : List (Vertex S)) → Drawn vs ps m k ws → ws ≡ vertices_in before (met_lists vs ps m) (map (codes vs) (met_numbers ps k))
  drawn_all zero h ws e = e
  drawn_all (suc k) h ws d =
      let row = met_lists vs ps m in
      d.4 ∙
      ap₂ (λ a b. a ++ b) (drawn_all k (omega arith) d.0 d.2) (sym (drawn_one k (omega arith) d.1 d.3)) ∙
      sym (vertices_append before row (map (codes vs) (met_numbers ps k)) (codes vs (list_at ps k) ∷ [])) ∙
      ap (vertices_in before row) (sym (map-append (codes vs) (met_numbers ps k) (list_at ps k ∷ [])))

module _ {S : Type 0} (before : S → S → Bool) (order : Order before) (vs : List (Vertex S)) (sound : Sound before vs) (ps : List Place) (m : ℕ) (sparse : Sparse ps m) (size : length ps ≡ length vs)
    (list : ℕ) (good : Good vs list) (laid : met_lists vs ps m ≡ lay before [] (codes vs list)) where
  laid_ledger : Ledger before (met_lists vs ps m)
  laid_ledger = subst⁻¹ (Ledger before) laid (lay_ledger before order [] (codes vs list) (empty_row refl) (codes_proper before order vs sound list good))

  pub fresh_many : length (lay before [] (codes vs list)) ≡ m
  fresh_many = ap length (sym laid) ∙ lists_long before order vs sound ps m sparse size

  pub fresh_root : (r : ℕ) → NewLink ps m list r → r ≡ (fresh before (codes vs list)).root
  fresh_root r new =
      let known = subst⁻¹ (λ row. Known before row (codes vs list)) laid (lay_knows before order [] (codes vs list)) in
      link_number before order vs sound ps m sparse size laid_ledger list r good known new ∙ ap (λ row. number before row (codes vs list)) laid

  pub fresh_drawn : (ws : List (Vertex S)) → Drawn vs ps m m ws → ws ≡ (fresh before (codes vs list)).drawn
  fresh_drawn ws d = drawn_all before order vs sound ps m sparse size laid_ledger m (omega arith) ws d ∙ ap (vertices_of before) laid
