-- The head of a dispatch, and numbers in four bytes, the highest first.
use Rattle.std.specs.Prelude.{ℕ, ◌+◌, ◌*◌, List, ◌∷◌, ◌++◌, Some, None, Option, slice_index}
use Rattle.std.specs.Borrow.{Bor}
use Rattle.ledger.specs.Dispatch.{be4}
use Rattle.wire.specs.declared.head.Head.{Head}

abbrev pub word_of : ℕ → ℕ → ℕ → ℕ → ℕ
word_of a b c d = ((a * 256 + b) * 256 + c) * 256 + d

-- the number in the four bytes from place i on
abbrev pub word : List ℕ → ℕ → ℕ
word bs i = word_of (slice_index bs i) (slice_index bs (i + 1)) (slice_index bs (i + 2)) (slice_index bs (i + 3))

abbrev pub head_of : List ℕ → Head
head_of bs = record { whole = word bs 0; version = slice_index bs 4; kind = slice_index bs 5; count = word bs 6; root = word bs 10 }

abbrev pub head_bytes : Head → List ℕ
head_bytes h = be4 h.whole ++ (h.version ∷ h.kind ∷ be4 h.count ++ be4 h.root)

-- the head that was split off
abbrev pub head_part : Option (Head × Bor (List ℕ)) → Option Head
head_part None = None
head_part (Some p) = Some p.0

-- what it was split from
abbrev pub rest_part : Option (Head × Bor (List ℕ)) → Option (List ℕ)
rest_part None = None
rest_part (Some p) = Some p.1.now
