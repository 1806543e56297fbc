-- How long the codes of a list are.
use Rattle.std.specs.Prelude.{◌≡◌, ℕ, zero, suc, ◌<◌, ◌≤◌, min, max, List, length, slice_index_or}
use Rattle.ledger.specs.declared.Vertex.{Vertex}
use Rattle.ledger.specs.Ledger.{codes}
use Rattle.ledger.specs.Lists.{Codes, none, blank, begun, Member}
use Rattle.memory.specs.declared.work.Place.{Place}
use Rattle.receiving.specs.Walks.{vacant}

-- no code of the list has more than 64 symbols
abbrev pub Short : {S : Type 0} → Codes S → Type 0
Short {S} t = (c : List S) → Member t c → length c ≤ 64

-- some code has
abbrev pub Long : {S : Type 0} → Codes S → Type 0
Long {S} t = (c : List S) × Member t c × (64 < length c)

-- the length of the longest code
abbrev pub longest : {S : Type 0} → Codes S → ℕ
longest none = 0
longest blank = 0
longest (begun a outer inner) = max (longest outer) (suc (longest inner))

-- what a number's place holds; the codes of a terminal are empty
abbrev pub length_in : List Place → ℕ → ℕ
length_in work zero = 0
length_in work (suc zero) = 0
length_in work (suc (suc k)) = (slice_index_or work k vacant).number

-- the first k places hold how long the codes of their vertices are, counted up to 65
abbrev pub Measured : {S : Type 0} → List (Vertex S) → ℕ → List Place → Type 0
Measured ds k work = (j : ℕ) → j < k → (slice_index_or work j vacant).number ≡ min (longest (codes ds (suc (suc j)))) 65
