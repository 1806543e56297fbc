-- A shelf in a row: what a run of records means as a shelf.
use Rattle.std.specs.Prelude.{◌≡◌, ℕ, ◌+◌, ◌<◌, ◌≤◌, min, List, [], ◌∷◌, ◌++◌, length, take, Ok, Err, Result}
use Rattle.std.proofs.Common.{length-take, arith}
use Rattle.memory.specs.declared.shelf.Full.{Full}

-- a run holds a vertex a record, and at most a million
abbrev pub row_capacity : {X : Type 0} → List X → ℕ
row_capacity run = min (length run) 1000000

pub row_bounds : {X : Type 0} (used : ℕ) (run : List X) → used ≤ row_capacity run → (length (take used run) ≤ row_capacity run) × (row_capacity run ≤ 1000000)
row_bounds used run h = (omega (arith, length-take used run), omega arith)

-- the same of any `used`, as far as the capacity goes
pub row_bounds_cut : {X : Type 0} (used : ℕ) (run : List X) → (length (take (min used (row_capacity run)) run) ≤ row_capacity run) × (row_capacity run ≤ 1000000)
row_bounds_cut used run = row_bounds (min used (row_capacity run)) run (omega arith)

-- the vertex becomes the last one, and m records are used then; or there is no place, and the run stays as it is
abbrev pub RowAppends : {X : Type 0} → ℕ → List X → X → Result ℕ Full → List X → Type 0
RowAppends used xs x (Ok m) ys = (used < row_capacity xs) × (take m ys ≡ take used xs ++ x ∷ []) × (m ≡ used + 1)
RowAppends used xs x (Err e) ys = (used ≡ row_capacity xs) × (ys ≡ xs)
