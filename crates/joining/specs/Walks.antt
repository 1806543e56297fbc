-- The walk over pairs: what waits in the frames, what it stands for, and how many turns are left.
use Rattle.std.specs.Prelude.{◌≡◌, ℕ, zero, suc, ◌+◌, ◌-◌, ◌<◌, ◌≤◌, Bool, ◌≢◌, ◌⊎◌, List, [], ◌∷◌, ◌++◌, length, Some, None, Ok, Err, Option, Result}
use Rattle.ledger.specs.declared.Vertex.{Vertex}
use Rattle.ledger.specs.Lists.{Codes}
use Rattle.ledger.specs.Diagrams.{Good, Sound}
use Rattle.ledger.specs.Ledger.{lay, lists}
use Rattle.ledger.specs.Laid.{Laid}
use Rattle.memory.specs.declared.recall.Question.{Question}
use Rattle.memory.specs.declared.shelf.Full.{Full}
use Rattle.memory.specs.Shelves.{vertex, FoundOrAppended}
use Rattle.joining.specs.Recalled.{Right}
use Rattle.joining.specs.Pairs.{sum, joint, apart}
use Rattle.joining.specs.declared.pairs.Pair.{Pair}
use Rattle.joining.specs.declared.pairs.Split.{Split}
use Rattle.joining.specs.declared.frames.Frame.{Frame}
use Rattle.joining.specs.declared.turns.Turn.{Turn}
use Rattle.joining.specs.declared.turns.Turn.TheVariants.{Meet, Answer}

-- the frames have room, whatever the vertices: a pair that is met, or waits, has a sum up to the places above it
abbrev pub Reaches : ℕ → ℕ → Turn → Type 0
Reaches room height (Meet pair) = height + sum pair ≤ room
Reaches room height (Answer n) = height ≤ room

abbrev pub Deep : ℕ → List Frame → Type 0
Deep room [] = Unit {0}
Deep room (f ∷ fs) = (length fs + sum f.pair ≤ room) × Deep room fs

pub record Fits (room : ℕ) (frames : List Frame) (turn : Turn) : Type 0 where
  pub reaches : Reaches room (length frames) turn
  pub deep : Deep room frames

-- how many turns are left at most for a pair with this sum
unfoldable pub weigh : ℕ → ℕ
weigh zero = 1
weigh (suc n) = weigh n + weigh n + 3

abbrev pub stage_cost : ℕ → Option ℕ → ℕ
stage_cost n None = 2 + weigh (n - 1)
stage_cost n (Some low) = 1

abbrev pub frame_cost : Frame → ℕ
frame_cost f = stage_cost (sum f.pair) f.outer

abbrev pub stack_cost : List Frame → ℕ
stack_cost [] = 0
stack_cost (f ∷ fs) = stack_cost fs + frame_cost f

abbrev pub turn_cost : Turn → ℕ
turn_cost (Meet pair) = weigh (sum pair)
turn_cost (Answer n) = 0

abbrev pub cost : List Frame → Turn → ℕ
cost frames turn = stack_cost frames + turn_cost turn

-- a turn leads on: there is room, and fewer turns are left
pub record Nearer (room : ℕ) (frames : List Frame) (turn : Turn) (places : ℕ) (after : List Frame) (next : Turn) : Type 0 where
  pub same : places ≡ room
  pub fits : Fits places after next
  pub falls : cost after next < cost frames turn

-- what a frame waits for, its vertices as they were when its pair was met (base): the list t, laid down after vs
abbrev pub Waits : {S : Type 0} → (S → S → Bool) → List (Vertex S) → ℕ → Split S → List (Vertex S) → Option ℕ → List (Vertex S) → Codes S → Type 0
Waits before old rule part base None vs t = (vs ≡ base) × (t ≡ joint before old rule part.outer)
Waits before old rule part base (Some low) vs t = Laid before base (joint before old rule part.outer) vs low × (t ≡ joint before old rule part.inner)

pub record Held {S : Type 0} (before : S → S → Bool) (old : List (Vertex S)) (rule : ℕ) (f : Frame) (vs : List (Vertex S)) (t : Codes S) : Type 0 where
  pub first : Good old f.pair.first
  pub second : Good old f.pair.second
  pub first_some : 0 < f.pair.first
  pub second_some : 0 < f.pair.second
  pub base : List (Vertex S)
  pub sound : Sound before base
  pub part : Split S
  pub is : apart before old f.pair ≡ Some part
  pub waits : Waits before old rule part base f.outer vs t

-- the frames, the top one first: laying t down after vs gives the top one what it waits for, and in the end the goal,
-- laid down after the old vertices
abbrev pub Stack : {S : Type 0} → (S → S → Bool) → List (Vertex S) → ℕ → Codes S → List Frame → List (Vertex S) → Codes S → Type 0
Stack before old rule goal [] vs t = (vs ≡ old) × (t ≡ goal)
Stack before old rule goal (f ∷ fs) vs t =
    (h : Held before old rule f vs t) × Stack before old rule goal fs h.base (joint before old rule f.pair)

abbrev pub Stands : {S : Type 0} → (S → S → Bool) → List (Vertex S) → ℕ → Codes S → List (Vertex S) → List Frame → Turn → Type 0
Stands before old rule goal vs frames (Meet pair) =
    Good old pair.first × Good old pair.second × Stack before old rule goal frames vs (joint before old rule pair)
Stands {S} before old rule goal vs frames (Answer n) =
    (base : List (Vertex S)) × (t : Codes S) × Stack before old rule goal frames base t × Laid before base t vs n

-- the walk after some turns: the goal is to be laid down after the old vertices
pub record Running {S : Type 0} (before : S → S → Bool) (old : List (Vertex S)) (rule : ℕ) (goal : Codes S) (vs : List (Vertex S)) (table : Question → Option ℕ) (frames : List Frame) (turn : Turn) : Type 0 where
  pub sound : Sound before vs
  pub more : List (Vertex S)
  pub extends : vs ≡ old ++ more
  pub right : Right before vs table
  pub stands : Stands before old rule goal vs frames turn

-- a turn that appends nothing
abbrev pub Goes : {S : Type 0} → (S → S → Bool) → ℕ → List (Vertex S) → (Question → Option ℕ) → List Frame → Turn → List Frame → Turn → Type 0
Goes {S} before rule vs table frames turn after next =
    (old : List (Vertex S)) (goal : Codes S) → Running before old rule goal vs table frames turn → Running before old rule goal vs table after next

-- a turn: it leads on, or the goal is too long for the shelf
abbrev pub Leads : {S : Type 0} → (S → S → Bool) → List (Vertex S) → ℕ → Codes S → ℕ → List (Vertex S) → (Question → Option ℕ) → List Frame → Result Turn Full → Type 0
Leads before old rule goal capacity ws table after (Ok next) = Running before old rule goal ws table after next
Leads {S} before old rule goal capacity ws table after (Err e) = (capacity < length (lay before (lists old) goal)) × ((more : List (Vertex S)) × (ws ≡ old ++ more))

abbrev pub Turns : {S : Type 0} → (S → S → Bool) → ℕ → ℕ → List (Vertex S) → (Question → Option ℕ) → List Frame → Turn → List (Vertex S) → (Question → Option ℕ) → List Frame → Result Turn Full → Type 0
Turns {S} before rule capacity vs table frames turn ws told after r =
    (old : List (Vertex S)) (goal : Codes S) → Running before old rule goal vs table frames turn → Leads before old rule goal capacity ws told after r

-- the vertex with these links; or the zero link's number, where the one link is 0
abbrev pub Coupled : {S : Type 0} → ℕ → List (Vertex S) → S → ℕ → ℕ → Result ℕ Full → List (Vertex S) → Type 0
Coupled capacity vs label low high r ws =
    ((high ≡ 0) × (r ≡ Ok low) × (ws ≡ vs)) ⊎ ((high ≢ 0) × FoundOrAppended capacity vs (vertex label low high) r ws)

-- a whole walk: the pair's list is laid down, and the recall table is right; or the list is too long
abbrev pub Walked : {S : Type 0} → (S → S → Bool) → ℕ → List (Vertex S) → Codes S → Result ℕ Full → List (Vertex S) → (Question → Option ℕ) → Type 0
Walked before capacity vs goal (Ok n) ws table = Laid before vs goal ws n × Right before ws table
Walked {S} before capacity vs goal (Err e) ws table = (capacity < length (lay before (lists vs) goal)) × ((more : List (Vertex S)) × (ws ≡ vs ++ more))

abbrev pub Walks : {S : Type 0} → (S → S → Bool) → ℕ → ℕ → Pair → List (Vertex S) → (Question → Option ℕ) → Result ℕ Full → List (Vertex S) → (Question → Option ℕ) → Type 0
Walks before capacity rule pair vs table r ws after =
    Sound before vs → Good vs pair.first → Good vs pair.second → Right before vs table → Walked before capacity vs (joint before vs rule pair) r ws after
