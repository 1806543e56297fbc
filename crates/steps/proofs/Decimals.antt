-- How many digits a number of 16 bits has.
use Rattle.std.specs.Prelude.{◌≡◌, ℕ, ◌+◌, ◌/◌, ◌%◌, ◌<◌, ◌≤◌, [], ◌∷◌, length, decimal}
use Rattle.std.proofs.Common.{ap, ◌∙◌, arith, length-append}
use Rattle.std.proofs.lemmas.Fmt.{decimal_digit, decimal_step}
use Rattle.steps.specs.Decimals.{wide}

pub digits_1 : (n : ℕ) → n < 10 → length (decimal n) ≡ 1
digits_1 n h = ap length (decimal_digit n h)

more : (n k : ℕ) → 10 ≤ n → n < 65536 → length (decimal (n / 10)) ≡ k → length (decimal n) ≡ k + 1
more n k l h e = ap length (decimal_step n l (wide n h)) ∙ length-append (decimal (n / 10)) ((48 + n % 10) ∷ []) ∙ ap (λ m. m + 1) e

pub digits_2 : (n : ℕ) → 10 ≤ n → n < 100 → length (decimal n) ≡ 2
digits_2 n l h = more n 1 l (omega arith) (digits_1 (n / 10) (omega arith))

pub digits_3 : (n : ℕ) → 100 ≤ n → n < 1000 → length (decimal n) ≡ 3
digits_3 n l h = more n 2 (omega arith) (omega arith) (digits_2 (n / 10) (omega arith) (omega arith))

pub digits_4 : (n : ℕ) → 1000 ≤ n → n < 10000 → length (decimal n) ≡ 4
digits_4 n l h = more n 3 (omega arith) (omega arith) (digits_3 (n / 10) (omega arith) (omega arith))

pub digits_5 : (n : ℕ) → 10000 ≤ n → n < 65536 → length (decimal n) ≡ 5
digits_5 n l h = more n 4 (omega arith) h (digits_4 (n / 10) (omega arith) (omega arith))
