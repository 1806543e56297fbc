-- The walk that tells whether the vertices of a dispatch stand in the order of laying down: the tasks that wait, what
-- they come to, and how many steps are left.
use Rattle.std.specs.Prelude.{◌≡◌, ℕ, zero, suc, ◌+◌, ◌*◌, ◌<◌, ◌≤◌, cond, ◌↔◌, List, [], ◌∷◌, length, Some, None, Option, ◌==◌}
use Rattle.ledger.specs.declared.Vertex.{Vertex}
use Rattle.ledger.specs.Visits.{Visits}
use Rattle.memory.specs.declared.work.Place.{Place}
use Rattle.receiving.specs.declared.visiting.Task.{Task}
use Rattle.receiving.specs.declared.visiting.Task.TheVariants.{Visit, Close}

abbrev pub vacant : Place
vacant = record { state = 0; list = 0; other = 0; number = 0; count = 0 }

-- a task in a place: state 0 says that the number is to be visited
abbrev pub task_of : Place → Task
task_of p = cond (p.state == 0) (Visit p.list) (Close p.list)

abbrev pub place_of : Task → Place
place_of (Visit n) = record { state = 0; list = n; other = 0; number = 0; count = 0 }
place_of (Close n) = record { state = 1; list = n; other = 0; number = 0; count = 0 }

-- there is room for all that a task may add, where so many places are below it
abbrev pub Reaches : ℕ → ℕ → Task → Type 0
Reaches room below (Visit n) = below + 2 * n ≤ room
Reaches room below (Close n) = Unit {0}

-- and for each that waits, the top one first
abbrev pub Fits : ℕ → List Place → Type 0
Fits room [] = Unit {0}
Fits room (p ∷ ps) = Reaches room (length ps) (task_of p) × Fits room ps

-- how many steps are left at most
unfoldable pub weigh : ℕ → ℕ
weigh zero = 1
weigh (suc n) = weigh n + weigh n + 2

abbrev pub task_cost : Task → ℕ
task_cost (Visit n) = weigh n
task_cost (Close n) = 1

abbrev pub cost : List Place → ℕ
cost [] = 0
cost (p ∷ ps) = task_cost (task_of p) + cost ps

module _ {S : Type 0} (vs : List (Vertex S)) where
  -- a task, from the first d vertices on, and then what comes after it
  abbrev pub Does : Task → ℕ → (ℕ → Type 0) → Type 0
  Does (Visit n) d next = (j : ℕ) × Visits vs d n j × next j
  Does (Close n) d next = (n ≡ suc (suc d)) × next (suc d)

  -- the tasks that wait lead from the first d vertices to the first k
  abbrev pub Rest : ℕ → List Place → ℕ → Type 0
  Rest k [] d = d ≡ k
  Rest k (p ∷ ps) d = Does (task_of p) d (λ j. Rest k ps j)

  -- a task before those that wait leads on, or shows that there is no way
  abbrev pub Leads : ℕ → Task → ℕ → List Place → Option ℕ → List Place → Type 0
  Leads k t d ps None after = Does t d (λ j. Rest k ps j) → ⊥
  Leads k t d ps (Some e) after = Does t d (λ j. Rest k ps j) ↔ Rest k after e

-- where a task leads on there is room, and fewer steps are left
abbrev pub ComesDown : ℕ → Task → List Place → Option ℕ → List Place → Type 0
ComesDown room t ps None after = Unit {0}
ComesDown room t ps (Some e) after = Fits room after × (cost after < task_cost t + cost ps)
