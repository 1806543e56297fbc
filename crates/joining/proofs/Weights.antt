-- Room and turns left: every turn keeps to its frames, and brings the walk nearer to its end.
use Rattle.std.proofs.Common.{◌≡◌, ℕ, zero, suc, ◌+◌, ◌-◌, ◌<◌, ◌≤◌, List, ◌∷◌, Some, None, refl, ap, subst, arith}
use mathlib.Core.Path.{subst⁻¹}
use Rattle.joining.specs.Pairs.{sum}
use Rattle.joining.specs.Walks.{Fits, weigh, stage_cost, frame_cost, Nearer}
use Rattle.joining.specs.declared.pairs.Pair.{Pair}
use Rattle.joining.specs.declared.frames.Frame.{Frame}
use Rattle.joining.specs.declared.turns.Turn.TheVariants.{Meet, Answer}

-- turns left for a pair
weigh_pos : (n : ℕ) → 1 ≤ weigh n
unfolding weigh
weigh_pos zero = omega arith
weigh_pos (suc n) = omega arith

weigh_add : (m n : ℕ) → weigh m ≤ weigh (n + m)
unfolding weigh
weigh_add m zero = let q : m ≡ 0 + m = omega arith in subst (λ (k : ℕ). weigh m ≤ weigh k) q (omega arith)
weigh_add m (suc n) =
    let h = weigh_add m n in
    let q : suc (n + m) ≡ suc n + m = omega arith in
    subst (λ (k : ℕ). weigh m ≤ weigh k) q (twice (weigh (n + m)) h)
  where
    twice : (w : ℕ) → weigh m ≤ w → weigh m ≤ w + w + 3
    twice w h = omega arith

weigh_up : (m n : ℕ) → m ≤ n → weigh m ≤ weigh n
weigh_up m n h = let q : (n - m) + m ≡ n = omega arith in subst (λ (k : ℕ). weigh m ≤ weigh k) q (weigh_add m (n - m))

weigh_step : (a n : ℕ) → a < n → 2 + weigh (n - 1) + weigh a < weigh n
unfolding weigh
weigh_step a zero h = absurd (omega arith)
weigh_step a (suc n) h =
    let q : suc n - 1 ≡ n = omega arith in
    let m = weigh_up a n (omega arith) in
    let e = ap weigh q in
    omega arith

module _ (room : ℕ) (frames : List Frame) where
  module _ (pair : Pair) (fits : Fits room frames (Meet pair)) where
    -- a number is known for the pair
    pub nearer_known : (n : ℕ) → Nearer room frames (Meet pair) room frames (Answer n)
    nearer_known n =
        let r = fits.reaches in
        let w = weigh_pos (sum pair) in
        record { same = refl; fits = record { reaches = omega arith; deep = fits.deep }; falls = omega arith }

    -- a frame is put on for the pair
    pub nearer_push : (outer : Pair) → sum outer < sum pair → (places : ℕ) (after : List Frame) → places ≡ room → after ≡ record { pair = pair; outer = None } ∷ frames →
        Nearer room frames (Meet pair) places after (Meet outer)
    nearer_push outer low places after same is =
        let r = fits.reaches in
        let w = weigh_step (sum outer) (sum pair) low in
        subst⁻¹ (λ (k : ℕ). Nearer room frames (Meet pair) k after (Meet outer)) same
        (subst⁻¹ (λ (fs : List Frame). Nearer room frames (Meet pair) room fs (Meet outer)) is
        (record { same = refl; fits = record { reaches = omega arith; deep = (r, fits.deep) }; falls = omega arith }))

  module _ (f : Frame) (n : ℕ) (fits : Fits room (f ∷ frames) (Answer n)) where
    -- the top frame goes on to its inner pair
    pub nearer_inner : (inner : Pair) → f.outer ≡ None → sum inner < sum f.pair → (places : ℕ) (after : List Frame) → places ≡ room → after ≡ record { pair = f.pair; outer = Some n } ∷ frames →
        Nearer room (f ∷ frames) (Answer n) places after (Meet inner)
    nearer_inner inner outer low places after same is =
        let d = fits.deep.0 in
        let c : frame_cost f ≡ 2 + weigh (sum f.pair - 1) = ap (stage_cost (sum f.pair)) outer in
        let w = weigh_up (sum inner) (sum f.pair - 1) (omega arith) in
        subst⁻¹ (λ (k : ℕ). Nearer room (f ∷ frames) (Answer n) k after (Meet inner)) same
        (subst⁻¹ (λ (fs : List Frame). Nearer room (f ∷ frames) (Answer n) room fs (Meet inner)) is
        (record { same = refl; fits = record { reaches = omega arith; deep = (d, fits.deep.1) }; falls = omega arith }))
