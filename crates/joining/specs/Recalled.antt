-- When a recall table is right, and what a join comes to.
use Rattle.std.specs.Prelude.{◌≡◌, ℕ, Bool, List, Some, Option, Result}
use Rattle.ledger.specs.declared.Vertex.{Vertex}
use Rattle.ledger.specs.Diagrams.{Good, Sound}
use Rattle.ledger.specs.Ledger.{codes, Lays}
use Rattle.ledger.specs.Operations.{takes, join}
use Rattle.memory.specs.declared.recall.Question.{Question}
use Rattle.memory.specs.declared.shelf.Full.{Full}

-- an entry: the numbers are good, and the answer's list is the join that is asked for
pub record RightEntry {S : Type 0} (before : S → S → Bool) (vs : List (Vertex S)) (q : Question) (n : ℕ) : Type 0 where
  pub first : Good vs q.first
  pub second : Good vs q.second
  pub answer : Good vs n
  pub is : codes vs n ≡ join before (takes q.rule) (codes vs q.first) (codes vs q.second)

-- every entry is right of these vertices
abbrev pub Right : {S : Type 0} → (S → S → Bool) → List (Vertex S) → (Question → Option ℕ) → Type 0
Right before vs table = (q : Question) (n : ℕ) → table q ≡ Some n → RightEntry before vs q n

-- the join of two lists by a rule, of good numbers in sound vertices, with a right recall table: it is laid down, or does
-- not fit, and the recall table is right of the vertices after
abbrev pub Joins : {S : Type 0} → (S → S → Bool) → ℕ → ℕ → ℕ → ℕ → List (Vertex S) → (Question → Option ℕ) → Result ℕ Full → List (Vertex S) → (Question → Option ℕ) → Type 0
Joins before capacity rule first second vs table r ws after =
    Sound before vs → Good vs first → Good vs second → Right before vs table →
    Lays before capacity vs (join before (takes rule) (codes vs first) (codes vs second)) r ws × Right before ws after
