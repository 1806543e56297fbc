-- A place more on a stack.
use Rattle.std.proofs.Common.{◌≡◌, ℕ, ◌+◌, ◌<◌, ◌≤◌, ◌≢◌, List, ◌∷◌, length, set, refl, ap, ap₂, add-one, arith}
use Rattle.std.proofs.lemmas.List.{get_or-set_same, get_or-set_other}
use Rattle.memory.specs.declared.work.Place.{Place}
use Rattle.memory.specs.Stacked.{Stacked, blank, stacked}

pub stacked_length : (places : List Place) (n : ℕ) → length (stacked places n) ≡ n
stacked_length places ℕ.zero = refl
stacked_length places (ℕ.suc n) = let h = stacked_length places n in omega arith

-- a place above is of no matter
above : (places : List Place) (j : ℕ) (p : Place) (n : ℕ) → n ≤ j → stacked (set places j p) n ≡ stacked places n
above places j p ℕ.zero h = refl
above places j p (ℕ.suc n) h =
    let other : n ≢ j = omega arith in
    ap₂ (λ (q : Place) (qs : List Place). q ∷ qs) (get_or-set_other places j n p blank other) (above places j p n (omega arith))

pub pushed : (places : List Place) (n : ℕ) (p : Place) → n < length places → stacked (set places n p) (n + 1) ≡ p ∷ stacked places n
pushed places n p h = rw add-one (ap₂ (λ (q : Place) (qs : List Place). q ∷ qs) (get_or-set_same places n p blank h) (above places n p n (omega arith)))

pub there_is_room : (places : List Place) (height : ℕ) (s : Stacked) → ◌≡◌ {A = Stacked} (record { frames = stacked places height; room = length places }) s → length s.frames < s.room → height < length places
there_is_room places height s is h =
    let l = stacked_length places height in
    let f : length (stacked places height) ≡ length s.frames = ap (λ (x : Stacked). length x.frames) is in
    let r : length places ≡ s.room = ap (λ (x : Stacked). x.room) is in
    omega arith
