-- What writing answers.
use Rattle.std.specs.Prelude.{◌≡◌, ℕ, ◌<◌, List, ◌++◌, length, drop, Ok, Err, Result}

-- the bytes stand at the start of the output, and what lay behind them stays; or the output is too short for them, and
-- nothing changes
abbrev pub Writes : {F : Type 0} → List ℕ → List ℕ → Result ℕ F → List ℕ → Type 0
Writes bs out (Ok n) after = (n ≡ length bs) × (after ≡ bs ++ drop n out)
Writes bs out (Err e) after = (length out < length bs) × (after ≡ out)

-- nothing behind what is written changes, and nothing at all by a refusal
abbrev pub PastKept : {F : Type 0} → List ℕ → Result ℕ F → List ℕ → Type 0
PastKept out (Ok n) after = drop n after ≡ drop n out
PastKept out (Err e) after = after ≡ out
