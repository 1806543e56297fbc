-- Worked rows of the ledger, with letters as numbers in order of value: A is 65, B is 66, C is 67.
use Rattle.std.specs.Prelude.{◌≡◌, ℕ, Bool, true, false, List, [], ◌∷◌, ◌++◌, length, Some, Ok, Err, Result, nat_lt}
use Rattle.std.specs.List.{slice_get}
use Rattle.ledger.specs.Lists.{Codes}
use Rattle.ledger.specs.declared.Vertex.{Vertex}
use Rattle.ledger.specs.Diagrams.{look}
use Rattle.ledger.specs.Ledger.{codes, Lays}
use Rattle.ledger.specs.Operations.{takes, join, single, added, removed, under}
use Rattle.ledger.specs.Ordered.{ordered}
use Rattle.ledger.specs.Gather.{gather, renumber, Keeps}

abbrev pub A : List ℕ
A = 65 ∷ []

abbrev pub B : List ℕ
B = 66 ∷ []

abbrev pub AB : List ℕ
AB = 65 ∷ 66 ∷ []

abbrev pub C : List ℕ
C = 67 ∷ []

abbrev pub vertex : ℕ → ℕ → ℕ → Vertex ℕ
vertex label low high = record { label = label; zero = low; one = high }

-- the vertices after AB is added to 0, B to 3, and the empty code to 4
abbrev pub first : List (Vertex ℕ)
first = vertex 66 0 1 ∷ vertex 65 0 2 ∷ []

abbrev pub second : List (Vertex ℕ)
second = first ++ vertex 65 2 2 ∷ []

abbrev pub third : List (Vertex ℕ)
third = second ++ vertex 66 1 1 ∷ vertex 65 5 2 ∷ []

-- a list laid down where there may be `capacity` vertices: the answer, or refusal 9
abbrev pub Answers : ℕ → List (Vertex ℕ) → Codes ℕ → Result ℕ ℕ → List (Vertex ℕ) → Type 0
Answers capacity vs t r ws = Lays nat_lt capacity vs t r ws

-- what clearing out marks when it keeps 4
abbrev pub marks : List Bool
marks = true ∷ false ∷ true ∷ false ∷ false ∷ []

pub record Rows : Type 0 where
  pub add_ab : Answers 10 [] (added nat_lt (codes [] 0) AB) (Ok 3) first
  pub two_is_b : codes first 2 ≡ single B
  pub add_b : Answers 10 first (added nat_lt (codes first 3) B) (Ok 4) second
  pub links_of_4 : look second 4 ≡ Some (vertex 65 2 2)
  pub remove_ab : Answers 10 second (removed nat_lt (codes second 4) AB) (Ok 2) second
  pub add_empty : Answers 10 second (added nat_lt (codes second 4) []) (Ok 6) third
  pub five_is : ordered (codes third 5) ≡ [] ∷ B ∷ []
  pub join_3 : Answers 10 third (join nat_lt (takes 3) (codes third 4) (codes third 3)) (Ok 2) third
  pub join_7 : Answers 10 third (join nat_lt (takes 7) (codes third 2) (codes third 3)) (Ok 4) third
  pub pick_0 : slice_get (ordered (codes third 6)) 0 ≡ Some []
  pub pick_1 : slice_get (ordered (codes third 6)) 1 ≡ Some AB
  pub pick_2 : slice_get (ordered (codes third 6)) 2 ≡ Some B
  pub under_a : under nat_lt (codes third 6) A ≡ codes third 2
  pub under_ab : under nat_lt (codes third 6) AB ≡ codes third 1
  pub under_c : under nat_lt (codes third 6) C ≡ codes third 0
  pub keep_4 : Keeps third (4 ∷ []) marks
  pub four_becomes : renumber marks 4 ≡ 3
  pub used_then : length (gather marks third) ≡ 2
  pub stay : gather marks third ≡ vertex 66 0 1 ∷ vertex 65 2 2 ∷ []
  -- with capacity 2
  pub narrow_add_ab : Answers 2 [] (added nat_lt (codes [] 0) AB) (Ok 3) first
  pub narrow_add_b : Answers 2 first (added nat_lt (codes first 3) B) (Err 9) first
  pub narrow_again : Answers 2 first (added nat_lt (codes first 0) B) (Ok 2) first
