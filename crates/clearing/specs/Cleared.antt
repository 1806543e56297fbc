-- What clearing out leaves.
use Rattle.std.specs.Prelude.{◌≡◌, ℕ, Bool, List, map}
use mathlib.Core.List.{Memᴰ}
use Rattle.ledger.specs.declared.Vertex.{Vertex}
use Rattle.ledger.specs.Diagrams.{Good}
use Rattle.ledger.specs.Gather.{gather, renumber, Keeps}

-- every number of a keep-list is good
abbrev pub AllGood : {S : Type 0} → List (Vertex S) → List ℕ → Type 0
AllGood vs keep = (k : ℕ) → Memᴰ k keep → Good vs k

-- exactly what is reached from the keep-list stays, in its order, and the keep-list has the new numbers
abbrev pub Clears : {S : Type 0} → List (Vertex S) → List ℕ → List (Vertex S) → List ℕ → Type 0
Clears vs keep ws keep' =
    (marks : List Bool) × Keeps vs keep marks × (ws ≡ gather marks vs) × (keep' ≡ map (renumber marks) keep)
