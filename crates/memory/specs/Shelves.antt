-- What a shelf's functions answer, over the list of vertices that the shelf means.
use Rattle.std.specs.Prelude.{◌≡◌, ℕ, suc, ◌+◌, ◌<◌, ◌≤◌, Bool, not, ◌⊎◌, List, [], ◌∷◌, ◌++◌, map, length, Some, None, Ok, Err, Option, Result, ◌==◌, slice_index_or}
use Rattle.ledger.specs.declared.Vertex.{Vertex}
use Rattle.ledger.specs.Laid.{First}
use Rattle.ledger.specs.Gather.{renumber}
use Rattle.memory.specs.declared.work.Place.{Place}
use Rattle.memory.specs.declared.shelf.Full.{Full}

abbrev pub vertex : {S : Type 0} → S → ℕ → ℕ → Vertex S
vertex label low high = record { label = label; zero = low; one = high }

-- the vertex becomes the last, with the next number; or the shelf is full, and nothing changes
abbrev pub Appends : {S : Type 0} → ℕ → List (Vertex S) → Vertex S → Result ℕ Full → List (Vertex S) → Type 0
Appends capacity vs v (Ok n) ws = (length vs < capacity) × (ws ≡ vs ++ v ∷ []) × (n ≡ length vs + 2)
Appends capacity vs v (Err e) ws = (length vs ≡ capacity) × (ws ≡ vs)

-- an equal vertex is there, and nothing changes; or there is none, and the vertex is appended
abbrev pub FoundOrAppended : {S : Type 0} → ℕ → List (Vertex S) → Vertex S → Result ℕ Full → List (Vertex S) → Type 0
FoundOrAppended capacity vs v r ws =
    ((n : ℕ) × First vs v (Some n) × (r ≡ Ok n) × (ws ≡ vs)) ⊎ (First vs v None × Appends capacity vs v r ws)

-- a place is a mark where its state is not 0
abbrev pub is_mark : Place → Bool
is_mark p = not (p.state == 0)

abbrev pub marks_in : List Place → List Bool
marks_in ps = map is_mark ps

-- each place has the new number of its vertex
abbrev pub Renumbered : List Place → List Place → Type 0
Renumbered ps qs = (k : ℕ) (d : Place) → k < length ps → (slice_index_or qs k d).number ≡ renumber (marks_in ps) (suc (suc k))

-- a vertex that is read has a number from 2 on, and its links are below that number
abbrev pub LinksBelow : {S : Type 0} → ℕ → Option (S × ℕ × ℕ) → Type 0
LinksBelow n None = Unit {0}
LinksBelow n (Some v) = (2 ≤ n) × (v.1 < n) × (v.2 < n)
