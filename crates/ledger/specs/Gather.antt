-- Keeping the marked vertices, in their order, with their links renumbered; and clearing out.
use Rattle.std.specs.Prelude.{◌≡◌, ℕ, zero, suc, ◌<◌, Bool, true, false, ◌↔◌, List, [], ◌∷◌, map, length, Some, slice_index_or}
use mathlib.Core.List.{Memᴰ}
use Rattle.ledger.specs.declared.Vertex.{Vertex}
use Rattle.ledger.specs.Diagrams.{look, Reached}

-- the marked ones, in their order
abbrev pub keep : {A : Type 0} → List Bool → List A → List A
keep [] xs = []
keep (m ∷ ms) [] = []
keep (true ∷ ms) (x ∷ xs) = x ∷ keep ms xs
keep (false ∷ ms) (x ∷ xs) = keep ms xs

-- how many of the first k are marked
abbrev pub marked_before : List Bool → ℕ → ℕ
marked_before [] k = 0
marked_before (m ∷ ms) zero = 0
marked_before (true ∷ ms) (suc k) = suc (marked_before ms k)
marked_before (false ∷ ms) (suc k) = marked_before ms k

-- a number once the unmarked vertices are gone; terminals stay
abbrev pub renumber : List Bool → ℕ → ℕ
renumber ms zero = 0
renumber ms (suc zero) = 1
renumber ms (suc (suc k)) = suc (suc (marked_before ms k))

abbrev pub renumbered : {S : Type 0} → List Bool → Vertex S → Vertex S
renumbered ms v = record { label = v.label; zero = renumber ms v.zero; one = renumber ms v.one }

abbrev pub gather : {S : Type 0} → List Bool → List (Vertex S) → List (Vertex S)
gather ms vs = map (renumbered ms) (keep ms vs)

-- a terminal, or a marked vertex
abbrev pub Marked : List Bool → ℕ → Type 0
Marked ms zero = Unit {0}
Marked ms (suc zero) = Unit {0}
Marked ms (suc (suc k)) = slice_index_or ms k false ≡ true

-- links of marked vertices lead to marked vertices and terminals
abbrev pub Whole : {S : Type 0} → List Bool → List (Vertex S) → Type 0
Whole {S} ms vs = (n : ℕ) (v : Vertex S) → look vs n ≡ Some v → Marked ms n → Marked ms v.zero × Marked ms v.one

-- marks that a shelf can gather by: one a vertex, and no link of a marked vertex leads to an unmarked one or to a
-- number not below its own
pub record Gatherable {S : Type 0} (ms : List Bool) (vs : List (Vertex S)) : Type 0 where
  pub numbered : length ms ≡ length vs
  pub below : (n : ℕ) (v : Vertex S) → look vs n ≡ Some v → Marked ms n → (v.zero < n) × (v.one < n)
  pub whole : Whole ms vs

-- marks that keep just what is reached from a list of numbers
abbrev pub Keeps : {S : Type 0} → List (Vertex S) → List ℕ → List Bool → Type 0
Keeps {S} vs ks ms =
    (length ms ≡ length vs) ×
    ((n : ℕ) (v : Vertex S) → look vs n ≡ Some v → Marked ms n ↔ ((k : ℕ) × Memᴰ k ks × Reached vs k n))
