-- Lines cut out of chunks.
use Rattle.std.specs.Prelude.{◌≡◌, ℕ, ◌<◌, List, ◌++◌, length, take, drop, Some, None, Option, ◌≢◌, slice_index}

-- no line feed stands before place n
abbrev pub Plain : List ℕ → ℕ → Type 0
Plain bytes n = (k : ℕ) → k < n → slice_index bytes k ≢ 10

-- the first line feed, or none
abbrev pub Ends : List ℕ → Option ℕ → Type 0
Ends bytes (Some n) = (n < length bytes) × (slice_index bytes n ≡ 10) × Plain bytes n
Ends bytes None = Plain bytes (length bytes)

-- a line with more bytes after the held ones, cut where the room ends; bytes past them are as they were
abbrev pub Held : List ℕ → ℕ → List ℕ → ℕ → List ℕ → Type 0
Held old held more n new = (take n new ≡ take (length old) (take held old ++ more)) × (drop n new ≡ drop n old)
