-- What follows from the law of an order.
use Rattle.std.proofs.Common.{◌≡◌, ℕ, Bool, true, false, not, ◌⊎◌, refl, inl, inr, arith}
use Rattle.symbols.specs.Order.{Order, OneBefore}

pub both_ways : (b : Bool) → (b ≡ true) ⊎ (b ≡ false)
both_ways true = inl refl
both_ways false = inr refl

module _ {S : Type 0} (before : S → S → Bool) (order : Order before) where
  pub not_both : (a b : S) → before a b ≡ true → before b a ≡ true → ⊥
  not_both a b p q = let r = order.irreflexive a in let t = order.transitive a b a p q in let z : true ≡ false = cc in let y : ◌≡◌ {A = ℕ} 0 1 = cc in omega arith

  pub one_before : OneBefore before
  one_before a b apart = by (before a b) (before b a) refl refl
    where
      by : (x y : Bool) → before a b ≡ x → before b a ≡ y → before b a ≡ not (before a b)
      by true true p q = absurd (not_both a b p q)
      by true false p q = cc
      by false true p q = cc
      by false false p q = absurd (apart (order.connected a b p q))
