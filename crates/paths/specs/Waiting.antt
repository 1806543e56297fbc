-- What frames wait for, on the way back up a code's path.
use Rattle.std.specs.Prelude.{◌≡◌, ℕ, ◌+◌, ◌-◌, ◌<◌, ◌≤◌, Bool, List, [], ◌∷◌, ◌++◌, length, drop, Some, None, Ok, Err, Option, Result, ◌==◌}
use Rattle.std.specs.List.{slice_get}
use Rattle.ledger.specs.declared.Vertex.{Vertex}
use Rattle.ledger.specs.Lists.{Codes, begun, Proper}
use Rattle.ledger.specs.Diagrams.{look, Good, Sound}
use Rattle.ledger.specs.Laid.{Laid}
use Rattle.ledger.specs.Ledger.{lay, lists, codes}
use Rattle.ledger.specs.Operations.{has, make}
use Rattle.memory.specs.declared.work.Place.{Place}
use Rattle.memory.specs.declared.shelf.Full.{Full}
use Rattle.paths.specs.declared.changing.Change.{Change}
use Rattle.paths.specs.declared.frames.Frame.{Frame}
use Rattle.paths.specs.declared.frames.Frame.TheVariants.{Zero, One}
use Rattle.paths.specs.Changed.{changed, end_number}
use Rattle.paths.specs.Framed.{frame_in}

-- a frame makes u of the list t that it waits for
abbrev pub Makes : {S : Type 0} → List (Vertex S) → List S → Frame → Codes S → Codes S → Type 0
Makes {S} vs code (Zero n) t u = (v : Vertex S) × (look vs n ≡ Some v) × (u ≡ begun v.label t (codes vs v.one))
Makes {S} vs code (One n spot) t u = (s : S) × (slice_get code spot ≡ Some s) × Good vs n × (u ≡ make s (codes vs n) t)

-- the frames, the top one first, make `whole` of the list t
abbrev pub Waits : {S : Type 0} → (S → S → Bool) → List (Vertex S) → List S → List Place → Codes S → Codes S → Type 0
Waits before vs code [] t whole = t ≡ whole
Waits {S} before vs code (p ∷ ps) t whole = (u : Codes S) × Makes vs code (frame_in p) t u × Proper before u × Waits before vs code ps u whole

-- a step down from `at`: the frame, where to go on and the symbols passed by then
pub record Step {S : Type 0} (before : S → S → Bool) (vs : List (Vertex S)) (code : List S) (at spot : ℕ) (frame : Frame) (next then : ℕ) : Type 0 where
  pub inside : then ≤ length code
  pub falls : next + spot + 1 ≤ at + then
  pub less : next + (length code - then) < at + (length code - spot)
  pub good : Sound before vs → Good vs at → Good vs next
  pub member : Sound before vs → Good vs at → has before (codes vs next) (drop then code) ≡ has before (codes vs at) (drop spot code)
  pub makes : Sound before vs → Good vs at → (change : Change) →
      Makes vs code frame (changed before change (codes vs next) (drop then code)) (changed before change (codes vs at) (drop spot code))

abbrev pub Stepped : {S : Type 0} → (S → S → Bool) → List (Vertex S) → List S → ℕ → ℕ → Option (Frame × ℕ × ℕ) → Type 0
Stepped before vs code at spot None =
    Sound before vs → Good vs at →
    ((change : Change) → codes vs (end_number change) ≡ changed before change (codes vs at) (drop spot code)) × ((at == 1) ≡ has before (codes vs at) (drop spot code))
Stepped before vs code at spot (Some s) = Step before vs code at spot s.0 s.1 s.2

-- vertices vs come first
abbrev pub Begins : {S : Type 0} → List (Vertex S) → List (Vertex S) → Type 0
Begins {S} vs ws = (more : List (Vertex S)) × (ws ≡ vs ++ more)

-- the list u is laid down over vs, after others; or there is no place for it
abbrev pub Settled : {S : Type 0} → (S → S → Bool) → ℕ → List (Vertex S) → Codes S → Result ℕ Full → List (Vertex S) → Type 0
Settled before capacity vs u (Ok n) ws = Laid before vs u ws n × Begins vs ws
Settled before capacity vs u (Err e) ws = (capacity < length (lay before (lists vs) u)) × Begins vs ws

-- a frame has made its list of the one that it waited for
abbrev pub Resumed : {S : Type 0} → (S → S → Bool) → ℕ → List S → Frame → List (Vertex S) → ℕ → Result ℕ Full → List (Vertex S) → Type 0
Resumed {S} before capacity code frame us n r ws =
    (vs : List (Vertex S)) (t u : Codes S) → Sound before vs → Begins vs us → Laid before vs t us n → Makes vs code frame t u → Proper before u → Settled before capacity vs u r ws

-- all frames have
abbrev pub Unwound : {S : Type 0} → (S → S → Bool) → ℕ → List S → List Place → List (Vertex S) → ℕ → Result ℕ Full → List (Vertex S) → Type 0
Unwound {S} before capacity code frames vs end r ws =
    (whole : Codes S) → Sound before vs → Good vs end → Waits before vs code frames (codes vs end) whole → Settled before capacity vs whole r ws
