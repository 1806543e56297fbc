-- What a recall table's functions answer.
use Rattle.std.specs.Prelude.{◌≡◌, ℕ, ◌⊎◌, List, Some, Option}
use mathlib.Core.List.{Memᴰ}
use Rattle.memory.specs.declared.recall.Question.{Question}

-- finitely many questions have an entry
abbrev pub Finite : (Question → Option ℕ) → Type 0
Finite table = (qs : List Question) × ((q : Question) (n : ℕ) → table q ≡ Some n → Memᴰ q qs)

-- each entry after is an entry before, or the one told
abbrev pub Told : (Question → Option ℕ) → Question → ℕ → (Question → Option ℕ) → Type 0
Told old question answer new = (q : Question) (n : ℕ) → new q ≡ Some n → (old q ≡ Some n) ⊎ ((q ≡ question) × (n ≡ answer))
