-- The command language: what a line can say, and how that is written.
use Rattle.std.specs.Prelude.{◌≡◌, ℕ, ◌^◌, ◌<◌, ◌≤◌, List, [], ◌∷◌, ◌++◌, length, codes, decimal}
use Rattle.commands.specs.declared.kinds.Kind.{Kind}
use Rattle.commands.specs.declared.kinds.Kind.TheVariants.{Letters, Steps}
use Rattle.commands.specs.Hexadecimals.{Hexadecimal}

-- the line that names a kind
abbrev pub kind_text : Kind → List ℕ
kind_text Letters = codes "LETTERS"
kind_text Steps = codes "STEPS"

-- what a line says: a list number and a code's text; a list number; a list number and k; a rule and two list numbers;
-- hexadecimal text
pub data Line : Type 0 where
  add : ℕ → List ℕ → Line
  remove : ℕ → List ℕ → Line
  holds : ℕ → List ℕ → Line
  under : ℕ → List ℕ → Line
  count : ℕ → Line
  write : ℕ → Line
  pick : ℕ → ℕ → Line
  join : ℕ → ℕ → ℕ → Line
  receive : List ℕ → Line

-- a word and its fields, each field after one space
abbrev pub spaced : List ℕ → List (List ℕ) → List ℕ
spaced word [] = word
spaced word (field ∷ fields) = word ++ (32 ∷ spaced field fields)

-- numbers are written in decimal without leading zeros, texts as they are
abbrev pub written : Line → List ℕ
written (add n code) = spaced (codes "ADD") (decimal n ∷ code ∷ [])
written (remove n code) = spaced (codes "REMOVE") (decimal n ∷ code ∷ [])
written (holds n code) = spaced (codes "HOLDS") (decimal n ∷ code ∷ [])
written (under n code) = spaced (codes "UNDER") (decimal n ∷ code ∷ [])
written (count n) = spaced (codes "COUNT") (decimal n ∷ [])
written (write n) = spaced (codes "WRITE") (decimal n ∷ [])
written (pick n k) = spaced (codes "PICK") (decimal n ∷ decimal k ∷ [])
written (join rule m n) = spaced (codes "JOIN") (decimal rule ∷ decimal m ∷ decimal n ∷ [])
written (receive text) = spaced (codes "RECEIVE") (text ∷ [])

-- list numbers and rules have 32 bits, a pick's k has 64, and hexadecimal text writes some bytes
abbrev pub InRange : Line → Type 0
InRange (add n code) = n < 2 ^ 32
InRange (remove n code) = n < 2 ^ 32
InRange (holds n code) = n < 2 ^ 32
InRange (under n code) = n < 2 ^ 32
InRange (count n) = n < 2 ^ 32
InRange (write n) = n < 2 ^ 32
InRange (pick n k) = (n < 2 ^ 32) × (k < 2 ^ 64)
InRange (join rule m n) = (rule < 2 ^ 32) × (m < 2 ^ 32) × (n < 2 ^ 32)
InRange (receive text) = Hexadecimal text

-- the bytes are a line of at most 8,192 that writes the command, which is in range
abbrev pub Says : List ℕ → Line → Type 0
Says bytes l = InRange l × (written l ≡ bytes) × (length bytes ≤ 8192)
