-- One turn of a walk.
use Rattle.std.proofs.Common.{◌≡◌, ℕ, suc, ◌+◌, ◌<◌, ◌≤◌, Bool, List, ◌∷◌, map, length, Some, None, sym, ap, ◌∙◌, subst, arith}
use mathlib.Core.Path.{subst⁻¹}
use Rattle.symbols.specs.Order.{Order}
use Rattle.memory.specs.declared.work.Place.{Place}
use Rattle.ledger.specs.declared.Vertex.{Vertex}
use Rattle.ledger.specs.Diagrams.{Sound}
use Rattle.ledger.specs.Ledger.{codes}
use Rattle.writing.specs.Met.{met_numbers, Sparse, with_met}
use Rattle.writing.specs.Walks.{Stacked, Walking, NextBelow, NextLink, first_of, Turns, TurnsTo, laying_all}
use Rattle.writing.proofs.Meeting.{met_long, sparse_more, numbers_more, room}
use Rattle.writing.proofs.Stacking.{stacked_push, stacked_pop, less_push, less_meet, first_small}
use Rattle.writing.proofs.Unwinding.{link_first, vertex_last}

-- the number that waits last, and the others
module _ (seen : List Place) (met last : ℕ) (others : List ℕ) (w : Walking seen (last ∷ others) met) where
  stacked : Stacked seen met (last ∷ others)
  stacked = w.2

  last_good : (2 ≤ last) × (last ≤ length seen + 1)
  last_good = (stacked.0, let h = stacked.1 in omega arith)

  module _ (link : ℕ) (below : NextBelow seen met last (Some link)) where
    pushed : Stacked seen met (link ∷ last ∷ others)
    pushed = stacked_push seen met link last others below.0 below.1 below.2 stacked

    module _ (ns : List ℕ) (on_top : ns ≡ link ∷ last ∷ others) where
      pub link_turns : Turns seen (last ∷ others) met seen ns met
      link_turns = subst⁻¹ (λ qs. Turns seen (last ∷ others) met seen qs met) on_top ((w.0, w.1, pushed), less_push (length seen) met link last below.0)

      pub link_leads : {S : Type 0} (before : S → S → Bool) (order : Order before) (vs : List (Vertex S)) (sound : Sound before vs) → length seen ≡ length vs →
          NextLink vs seen met last (Some link) → TurnsTo before vs seen (last ∷ others) met seen ns met
      link_leads before order vs sound size next =
          ap (λ qs. laying_all before vs qs (map (codes vs) (met_numbers seen met))) on_top ∙
          ap (laying_all before vs others) (link_first before order vs sound seen met w.1 size last next.0 next.1 stacked.2 link next.2)

  pub has_place : met < length seen
  has_place = room seen met last w.1 stacked.2 last_good.0 last_good.1

  up : suc met ≡ met + 1
  up = omega arith

  meets : Turns seen (last ∷ others) met (with_met seen met last) others (met + 1)
  meets =
      let long = met_long seen met last has_place last_good.0 last_good.1 in
      let h = has_place in
      let popped = stacked_pop seen met last has_place last_good.0 last_good.1 others stacked.3 stacked.4 in (
        (
          omega arith,
          subst (Sparse (with_met seen met last)) up (sparse_more seen met last has_place last_good.0 last_good.1 w.1 stacked.2),
          subst (λ m. Stacked (with_met seen met last) m others) up popped,
        ),
        let small = first_small seen met others stacked.4 in rw long (less_meet (length seen) met (first_of others) last h small),
      )

  module _ (now_seen : List Place) (is : now_seen ≡ with_met seen met last) where
    pub vertex_turns : Turns seen (last ∷ others) met now_seen others (met + 1)
    vertex_turns = subst⁻¹ (λ ps. Turns seen (last ∷ others) met ps others (met + 1)) is meets

    pub vertex_leads : {S : Type 0} (before : S → S → Bool) (order : Order before) (vs : List (Vertex S)) (sound : Sound before vs) → length seen ≡ length vs →
        NextLink vs seen met last None → TurnsTo before vs seen (last ∷ others) met now_seen others (met + 1)
    vertex_leads before order vs sound size next =
        let numbers = ap (λ ps. met_numbers ps (met + 1)) is ∙ ap (met_numbers (with_met seen met last)) (sym up) ∙ numbers_more seen met last has_place last_good.0 last_good.1 in
        ap (λ ns. laying_all before vs others (map (codes vs) ns)) numbers ∙
        ap (laying_all before vs others) (vertex_last before order vs sound seen met w.1 size last next.0 next.1 stacked.2 next.2 next.3)
