-- Digits and the numbers that they write.
use Rattle.std.specs.Prelude.{ℕ, ◌+◌, ◌-◌, ◌*◌, cond, ◌&&◌, Some, None, Option, nat_le, nat_lt}

-- the digit that a byte is
abbrev pub digit_of : ℕ → Option ℕ
digit_of b = cond (nat_le 48 b && nat_le b 57) (Some (b - 48)) None

-- one digit more of a number, if it stays below 2 ^ 64
abbrev pub pushed : ℕ → ℕ → Option ℕ
pushed n b = cond (nat_le 48 b && nat_le b 57 && nat_lt (n * 10 + (b - 48)) 18446744073709551616) (Some (n * 10 + (b - 48))) None
