-- A walk that lays a list down in vertices which are there already: from the first d vertices to the first k.
use Rattle.std.specs.Prelude.{◌≡◌, ℕ, suc, ◌<◌, ◌≤◌, List, Some}
use Rattle.ledger.specs.declared.Vertex.{Vertex}
use Rattle.ledger.specs.Diagrams.{look}

pub data Visits {S : Type 0} (vs : List (Vertex S)) : ℕ → ℕ → ℕ → Type 0 where
  passed : {d n k : ℕ} → n < suc (suc d) → d ≡ k → Visits vs d n k
  comes_to : {d n k : ℕ} (v : Vertex S) (j i : ℕ) → look vs n ≡ Some v → suc (suc d) ≤ n →
      Visits vs d v.zero j → Visits vs j v.one i → n ≡ suc (suc i) → suc i ≡ k → Visits vs d n k
