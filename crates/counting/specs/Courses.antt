-- How a pick comes to its code, turn by turn: a means of the proofs.
use Rattle.std.specs.Prelude.{◌≡◌, ℕ, ◌+◌, ◌<◌, ◌≤◌, Bool, ◌⊎◌, List, [], ◌∷◌, ◌++◌, length, take, drop, Some, None, Option}
use Rattle.std.specs.List.{slice_get}
use Rattle.std.specs.Option.{option_map}
use Rattle.ledger.specs.declared.Vertex.{Vertex}
use Rattle.ledger.specs.Diagrams.{Good, Sound}
use Rattle.ledger.specs.Ledger.{codes}
use Rattle.ledger.specs.Ordered.{ordered}
use Rattle.memory.specs.declared.work.Place.{Place}
use Rattle.counting.specs.Tallies.{Tallied}
use Rattle.counting.specs.declared.picking.Course.{Course}
use Rattle.counting.specs.declared.picking.Spot.{Spot}
use Rattle.counting.specs.declared.picking.Turn.{Turn}
use Rattle.counting.specs.declared.picking.Turn.TheVariants.{Ends, Passes, Takes}

-- what is left of a number without n
abbrev pub LeftOf : ℕ → ℕ → Option ℕ → Type 0
LeftOf before n None = before < n
LeftOf before n (Some left) = before ≡ n + left

abbrev pub AtMost : ℕ → Option ℕ → Type 0
AtMost before None = Unit {0}
AtMost before (Some left) = left ≤ before

-- there is such a code
abbrev pub Stands : {S : Type 0} → List (Vertex S) → Spot → Type 0
Stands vs spot = Good vs spot.list × (spot.before < length (ordered (codes vs spot.list)))

-- there is such a code on a sound shelf, and the lists up to its own are tallied
abbrev pub Walkable : {S : Type 0} → (S → S → Bool) → List (Vertex S) → Spot → List Place → Type 0
Walkable before vs spot work = Sound before vs × Tallied vs (spot.list + 1) work × Stands vs spot

-- that code
abbrev pub code_at : {S : Type 0} → List (Vertex S) → Spot → Option (List S)
code_at vs spot = slice_get (ordered (codes vs spot.list)) spot.before

-- what the code is
abbrev pub Leads : {S : Type 0} → List (Vertex S) → Spot → Turn S → Type 0
Leads vs spot Ends = code_at vs spot ≡ Some []
Leads vs spot (Passes outer) = Stands vs outer × (code_at vs spot ≡ code_at vs outer)
Leads vs spot (Takes label inner) = Stands vs inner × (code_at vs spot ≡ option_map (λ c. label ∷ c) (code_at vs inner))

-- the number goes down
abbrev pub Lower : {S : Type 0} → Spot → Turn S → Type 0
Lower spot Ends = Unit {0}
Lower spot (Passes outer) = outer.list < spot.list
Lower spot (Takes label inner) = inner.list < spot.list

-- the whole code: what is written, and the rest
abbrev pub whole : {S : Type 0} → List (Vertex S) → Course → List S → Option (List S)
whole vs course out = option_map (λ c. take course.length out ++ c) (code_at vs course.rest)

-- one turn leaves the whole code as it is; where there is none, the rest is empty, or makes the code too long
abbrev pub Advances : {S : Type 0} → List (Vertex S) → Course → List S → Option Course → List S → Type 0
Advances {S} vs course entry None exit =
    (c : List S) × (code_at vs course.rest ≡ Some c) × ((c ≡ []) ⊎ (64 < course.length + length c))
Advances vs course entry (Some next) exit = Stands vs next.rest × (whole vs next exit ≡ whole vs course entry)

abbrev pub Falls : Course → Option Course → Type 0
Falls course None = Unit {0}
Falls course (Some next) = (next.rest.list < course.rest.list) × (course.length ≤ next.length) × (next.length ≤ 64)

-- what is not written yet stays
abbrev pub Keeps : {S : Type 0} → List S → Option Course → List S → Type 0
Keeps entry None exit = exit ≡ entry
Keeps entry (Some next) exit = drop next.length exit ≡ drop next.length entry
