-- A number's digits: one more.
use Rattle.std.specs.Prelude.{◌≡◌, ℕ, ◌+◌, ◌*◌, ◌/◌, ◌%◌, ◌^◌, ◌<◌, ◌≤◌, [], ◌∷◌, ◌++◌, decimal}
use Rattle.std.proofs.Common.{◌∙◌, arith}
use Rattle.std.proofs.lemmas.Fmt.{decimal_step}

-- a number of 16 bits is one of 64
pub wide : (n : ℕ) → n < 65536 → n < 2 ^ 64
wide n h = omega arith

-- one digit more behind a number that is not 0
pub decimal_more : (n d : ℕ) → 1 ≤ n → d < 10 → n * 10 + d < 65536 → decimal (n * 10 + d) ≡ decimal n ++ (48 + d) ∷ []
decimal_more n d l h s =
    let front : (n * 10 + d) / 10 ≡ n = omega arith in
    let last : (n * 10 + d) % 10 ≡ d = omega arith in
    decimal_step (n * 10 + d) (omega arith) (wide (n * 10 + d) s) ∙ (λ i. decimal (front i) ++ (48 + last i) ∷ [])
