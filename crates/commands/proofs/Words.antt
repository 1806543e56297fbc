-- A text known byte by byte.
use Rattle.std.proofs.Common.{◌≡◌, ℕ, ◌+◌, List, [], ◌∷◌, length, get_or, drop, sym, ap, ◌∙◌, arith}
use Rattle.std.proofs.lemmas.List.{drop_more, drop_all}
use Rattle.commands.specs.Reading.{word_of}

-- the bytes of a text from place i on are these
abbrev pub Reads : List ℕ → ℕ → List ℕ → Type 0
Reads bs i [] = Unit {0}
Reads bs i (x ∷ w) = (get_or bs i 0 ≡ x) × Reads bs (i + 1) w

word_from : (bs : List ℕ) (i : ℕ) (w : List ℕ) → length bs ≡ i + length w → Reads bs i w → drop i bs ≡ w
word_from bs i [] l r = drop_all i bs (omega arith)
word_from bs i (x ∷ w) l r = drop_more bs i 0 (omega arith) ∙ (λ j. r.0 j ∷ word_from bs (i + 1) w (omega arith) r.1 j)

-- and so the word is that of these bytes
pub named : (bs w : List ℕ) → length bs ≡ length w → Reads bs 0 w → word_of w ≡ word_of bs
named bs w l r = ap word_of (sym (word_from bs 0 w (omega arith) r))
