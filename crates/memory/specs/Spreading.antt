-- Marks, one a vertex, and how they spread from some lists over links.
use Rattle.std.specs.Prelude.{◌≡◌, ℕ, zero, suc, ◌≤◌, Bool, true, ◌⊎◌, List, [], ◌∷◌, length, Some, None, slice_set}
use mathlib.Core.List.{Memᴰ}
use Rattle.ledger.specs.declared.Vertex.{Vertex}
use Rattle.ledger.specs.Diagrams.{look, Reached}
use Rattle.ledger.specs.Gather.{Marked}

-- one more mark; terminals, and numbers past the vertices, have none
abbrev pub with_mark : List Bool → ℕ → List Bool
with_mark ms zero = ms
with_mark ms (suc zero) = ms
with_mark ms (suc (suc k)) = slice_set ms k true

abbrev pub with_marks : List Bool → List ℕ → List Bool
with_marks ms [] = ms
with_marks ms (n ∷ ns) = with_marks (with_mark ms n) ns

-- the links of a marked vertex are marked then; where there is no vertex, or no mark on it, nothing changes
abbrev pub Visited : {S : Type 0} → List (Vertex S) → ℕ → List Bool → List Bool → Type 0
Visited {S} vs n ms after =
    (Marked ms n × ((v : Vertex S) × (look vs n ≡ Some v) × (after ≡ with_mark (with_mark ms v.zero) v.one))) ⊎
    (((Marked ms n → ⊥) ⊎ (look vs n ≡ None)) × (after ≡ ms))

-- Marks that have spread over the links of the numbers from n on: what is marked is reached from the lists, the
-- lists' own vertices are marked, and from n on a marked vertex has marked links.
pub record Spread {S : Type 0} (vs : List (Vertex S)) (keep : List ℕ) (n : ℕ) (ms : List Bool) : Type 0 where
  pub numbered : length ms ≡ length vs
  pub reached : (k : ℕ) (v : Vertex S) → look vs k ≡ Some v → Marked ms k → (j : ℕ) × Memᴰ j keep × Reached vs j k
  pub kept : (k : ℕ) (v : Vertex S) → look vs k ≡ Some v → Memᴰ k keep → Marked ms k
  pub links : (k : ℕ) (v : Vertex S) → n ≤ k → look vs k ≡ Some v → Marked ms k → Marked ms v.zero × Marked ms v.one
