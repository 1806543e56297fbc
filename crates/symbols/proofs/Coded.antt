-- A kind whose symbols are ordered by a number of their own. Assumes nothing.
use Rattle.std.proofs.Common.{◌≡◌, ℕ, true, false, ltb, arith, ltb-false, ltb-true, le-ltb, lt-ltb}
use Rattle.symbols.specs.Order.{Order, lower}

pub by_code : {S : Type 0} (code : S → ℕ) → ((x y : S) → code x ≡ code y → x ≡ y) → Order (λ x y. ltb (code x) (code y))
by_code code same = record {
  irreflexive = λ x. le-ltb _ _ (omega arith);
  transitive = λ x y z p q. lt-ltb _ _ (omega (arith, ltb-true _ _ p, ltb-true _ _ q));
  connected = λ x y p q. same x y (omega (arith, ltb-false _ _ p, ltb-false _ _ q));
}

lower_same : (a b : ℕ) → lower a b a b ≡ false
lower_same a b = grind arith

lower_on : (a b c d e f : ℕ) → lower a b c d ≡ true → lower c d e f ≡ true → lower a b e f ≡ true
lower_on a b c d e f p q = grind arith

lower_first : (a b c d : ℕ) → lower a b c d ≡ false → lower c d a b ≡ false → a ≡ c
lower_first a b c d p q = grind arith

lower_second : (a b c d : ℕ) → lower a b c d ≡ false → lower c d a b ≡ false → b ≡ d
lower_second a b c d p q = grind arith

-- a kind whose symbols are ordered by one number, then by another
pub by_codes : {S : Type 0} (first second : S → ℕ) → ((x y : S) → first x ≡ first y → second x ≡ second y → x ≡ y) → Order (λ x y. lower (first x) (second x) (first y) (second y))
by_codes first second same = record {
  irreflexive = λ x. lower_same (first x) (second x);
  transitive = λ x y z p q. lower_on (first x) (second x) (first y) (second y) (first z) (second z) p q;
  connected = λ x y p q. same x y (lower_first (first x) (second x) (first y) (second y) p q) (lower_second (first x) (second x) (first y) (second y) p q);
}
