-- The stack of a walk, and that a walk ends.
use Rattle.std.proofs.Common.{◌≡◌, ℕ, suc, ◌+◌, ◌-◌, ◌*◌, ◌<◌, ◌≤◌, ◌≢◌, List, [], ◌∷◌, length, ap, ◌∙◌, suc-mul, arith}
use Rattle.memory.specs.declared.work.Place.{Place}
use Rattle.writing.specs.Met.{Unmet, with_met}
use Rattle.writing.specs.Walks.{waiting, Above, Stacked, first_of}
use Rattle.writing.proofs.Meeting.{met_long, unmet_more}

above_less : (link n : ℕ) (ns : List ℕ) → link < n → Above n ns → Above link ns
above_less link n [] h a = tt
above_less link n (k ∷ ns) h a = (let b = a.0 in omega arith, above_less link n ns h a.1)

module _ (ps : List Place) (m : ℕ) where
  pub stacked_push : (link n : ℕ) (ns : List ℕ) → link < n → 2 ≤ link → Unmet ps m link → Stacked ps m (n ∷ ns) → Stacked ps m (link ∷ n ∷ ns)
  stacked_push link n ns h low new s = (low, let b = s.1 in omega arith, new, (h, above_less link n ns h s.3), s)

  module _ (n : ℕ) (few : m < length ps) (low : 2 ≤ n) (high : n ≤ length ps + 1) where
    pub stacked_pop : (ns : List ℕ) → Above n ns → Stacked ps m ns → Stacked (with_met ps m n) (suc m) ns
    stacked_pop [] a s = tt
    stacked_pop (k ∷ ns) a s =
        let b = a.0 in
        let c = s.1 in
        let other : k ≢ n = omega arith in (
          s.0,
          rw (met_long ps m n few low high) s.1,
          unmet_more ps m n few low high k other s.2,
          s.3,
          stacked_pop ns a.1 s.4,
        )

-- a turn takes something away
pub less_push : (used m a b : ℕ) → a < b → (used - m) * (used + 2) + a < (used - m) * (used + 2) + b
less_push used m a b h = omega arith

pub less_meet : (used m top n : ℕ) → m < used → top ≤ used + 1 → (used - (m + 1)) * (used + 2) + top < (used - m) * (used + 2) + n
less_meet used m top n h l =
    let e : used - m ≡ suc (used - (m + 1)) = omega arith in
    rw e (omega (arith, suc-mul (used - (m + 1)) (used + 2)))

pub first_small : (ps : List Place) (m : ℕ) (ns : List ℕ) → Stacked ps m ns → first_of ns ≤ length ps + 1
first_small ps m [] s = omega arith
first_small ps m (n ∷ ns) s = let b = s.1 in omega arith

-- two places more
pub waiting_push : (p q : Place) (n : ℕ) (frames once twice : List Place) → once ≡ p ∷ frames → q.list ≡ n → twice ≡ q ∷ once → waiting twice ≡ n ∷ p.list ∷ waiting frames
waiting_push p q n frames once twice e f g = ap waiting g ∙ (λ i. f i ∷ waiting (e i))
