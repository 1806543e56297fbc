-- Marks in places: place k speaks of the vertex with number k + 2.
use Rattle.std.specs.Prelude.{◌≡◌, ℕ, zero, suc, ◌<◌, Bool, List, [], ◌∷◌, Some}
use Rattle.ledger.specs.declared.Vertex.{Vertex}
use Rattle.ledger.specs.Diagrams.{look}
use Rattle.ledger.specs.Gather.{Marked}
use Rattle.memory.specs.declared.work.Place.{Place}

-- a link of the vertex `own` that leads below it, to a terminal or to a marked vertex
abbrev pub Stays : List Bool → ℕ → ℕ → Type 0
Stays ms own link = (link < own) × Marked ms link

-- the vertex `own` is unmarked, or both its links stay
abbrev pub BothStay : {S : Type 0} → List Bool → ℕ → Vertex S → Type 0
BothStay ms own v = Marked ms own → Stays ms own v.zero × Stays ms own v.one

abbrev pub AllStay : {S : Type 0} → List Bool → List (Vertex S) → Type 0
AllStay {S} ms vs = (n : ℕ) (v : Vertex S) → look vs n ≡ Some v → BothStay ms n v

-- the number in place k, or another one past the places
abbrev pub number_at : List Place → ℕ → ℕ → ℕ
number_at [] k other = other
number_at (p ∷ ps) zero other = p.number
number_at (p ∷ ps) (suc k) other = number_at ps k other

-- the number in a link's place; a terminal stays, and so does a link past the places
abbrev pub noted : List Place → ℕ → ℕ
noted ps zero = 0
noted ps (suc zero) = 1
noted ps (suc (suc k)) = number_at ps k (suc (suc k))

abbrev pub noted_vertex : {S : Type 0} → List Place → Vertex S → Vertex S
noted_vertex ps v = record { label = v.label; zero = noted ps v.zero; one = noted ps v.one }
