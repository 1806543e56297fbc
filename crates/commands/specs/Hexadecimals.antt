-- Bytes as hexadecimal text: two lower-case digits a byte.
use Rattle.std.specs.Prelude.{◌≡◌, ℕ, ◌+◌, ◌/◌, ◌%◌, ◌<◌, cond, List, [], ◌∷◌, nat_lt}
use Rattle.std.specs.List.{AllByRecursion}

-- the lower-case digit of a number below 16
abbrev pub digit : ℕ → ℕ
digit n = cond (nat_lt n 10) (48 + n) (87 + n)

-- the digits of each byte, the higher first
abbrev pub hexadecimal : List ℕ → List ℕ
hexadecimal [] = []
hexadecimal (b ∷ bs) = digit (b / 16) ∷ digit (b % 16) ∷ hexadecimal bs

-- each is a byte
abbrev pub Bytes : List ℕ → Type 0
Bytes bs = AllByRecursion (λ b. b < 256) bs

-- the text writes these bytes
abbrev pub Writes : List ℕ → List ℕ → Type 0
Writes text bytes = Bytes bytes × (hexadecimal bytes ≡ text)

-- the text writes some bytes
abbrev pub Hexadecimal : List ℕ → Type 0
Hexadecimal text = (bytes : List ℕ) × Writes text bytes
