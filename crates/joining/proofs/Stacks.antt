-- The frames that wait: what they wait for fits into the goal.
use Rattle.std.proofs.Common.{◌≡◌, ℕ, ◌≤◌, Bool, List, [], ◌∷◌, length, map, Some, None, Option, ap, ◌∙◌, ap₂, arith}
use Rattle.symbols.specs.Order.{Order}
use Rattle.ledger.specs.declared.Vertex.{Vertex}
use Rattle.ledger.specs.Lists.{Codes}
use Rattle.ledger.specs.Diagrams.{Sound}
use Rattle.ledger.specs.Ledger.{lay, lists}
use Rattle.ledger.specs.Operations.{takes, make}
use Rattle.ledger.proofs.Drawn.{pictured}
use Rattle.memory.specs.declared.work.Place.{Place}
use Rattle.memory.specs.Stacked.{Stacked}
use Rattle.joining.specs.Frames.{frame_of, waiting}
use Rattle.joining.specs.Pairs.{joint}
use Rattle.joining.specs.Walks.{Waits, Held, Stack}
use Rattle.joining.specs.declared.pairs.Split.{Split}
use Rattle.joining.specs.declared.frames.Frame.{Frame}
use Rattle.joining.proofs.Splits.{parted_is}
use Rattle.joining.proofs.Coupling.{made_longer, outer_longer}

module _ {S : Type 0} (before : S → S → Bool) (order : Order before) (old : List (Vertex S)) (rule : ℕ) (goal : Codes S) where
  module _ (sound : Sound before old) where
    -- a held pair's list is made of its parts' lists
    pub held_is : (f : Frame) (vs : List (Vertex S)) (t : Codes S) (h : Held before old rule f vs t) →
        joint before old rule f.pair ≡ make h.part.label (joint before old rule h.part.outer) (joint before old rule h.part.inner)
    held_is f vs t h = (parted_is before order old sound (takes rule) f.pair h.first h.second h.first_some h.second_some h.part h.is).is

    waits_longer : (part : Split S) (base : List (Vertex S)) → Sound before base → (stage : Option ℕ) (vs : List (Vertex S)) (t : Codes S) → Waits before old rule part base stage vs t →
        length (lay before (lists vs) t) ≤ length (lay before (lists base) (make part.label (joint before old rule part.outer) (joint before old rule part.inner)))
    waits_longer part base sb None vs t w =
        let l = outer_longer before order (pictured before order base sb).ledger part.label (joint before old rule part.outer) (joint before old rule part.inner) in
        let e = ap₂ (λ (us : List (Vertex S)) (u : Codes S). length (lay before (lists us) u)) w.0 w.1 in
        omega arith
    waits_longer part base sb (Some low) vs t w =
        let l = made_longer before order (pictured before order base sb).ledger part.label (joint before old rule part.outer) (joint before old rule part.inner) in
        let e = ap₂ (λ row (u : Codes S). length (lay before row u)) w.0.row w.1 in
        omega arith

    pub stack_longer : (frames : List Frame) (vs : List (Vertex S)) (t : Codes S) → Stack before old rule goal frames vs t →
        length (lay before (lists vs) t) ≤ length (lay before (lists old) goal)
    stack_longer [] vs t s =
        let e = ap₂ (λ (us : List (Vertex S)) (u : Codes S). length (lay before (lists us) u)) s.0 s.1 in
        omega arith
    stack_longer (f ∷ fs) vs t s =
        let h : Held before old rule f vs t = s.0 in
        let below = stack_longer fs h.base (joint before old rule f.pair) s.1 in
        let e = ap (λ (u : Codes S). length (lay before (lists h.base) u)) (held_is f vs t h) in
        let w = waits_longer h.part h.base h.sound f.outer vs t h.waits in
        omega arith

-- a frame more
pub put_on : (stack : Stacked) (p : Place) (f : Frame) (after : Stacked) → after.frames ≡ p ∷ stack.frames → frame_of p ≡ f → waiting after ≡ f ∷ waiting stack
put_on stack p f after e is = ap (map frame_of) e ∙ ap (λ (x : Frame). x ∷ waiting stack) is
