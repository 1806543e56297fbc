-- The law of an order of symbols.
use Rattle.std.specs.Prelude.{◌≡◌, ℕ, Bool, true, false, not, ◌&&◌, ◌||◌, ◌==◌, ◌≢◌, nat_lt}

pub record Order {S : Type 0} (before : S → S → Bool) : Type 0 where
  -- nothing comes before itself
  pub irreflexive : (a : S) → before a a ≡ false
  pub transitive : (a b c : S) → before a b ≡ true → before b c ≡ true → before a c ≡ true
  -- two symbols of which neither comes before the other are the same
  pub connected : (a b : S) → before a b ≡ false → before b a ≡ false → a ≡ b

-- of two symbols that differ, exactly one comes before the other
abbrev pub OneBefore : {S : Type 0} → (S → S → Bool) → Type 0
OneBefore {S} before = (a b : S) → (a ≢ b) → before b a ≡ not (before a b)

-- whether two symbols are the same, by the order
abbrev pub same_symbol : {S : Type 0} → (S → S → Bool) → S → S → Bool
same_symbol before a b = not (before a b) && not (before b a)

-- the order of pairs of numbers: by the first, then by the second
abbrev pub lower : ℕ → ℕ → ℕ → ℕ → Bool
lower a b c d = nat_lt a c || (a == c && nat_lt b d)
