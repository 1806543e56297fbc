-- One more mark: what is marked then, and what was.
use Rattle.std.proofs.Common.{◌≡◌, ℕ, zero, suc, ◌+◌, ◌-◌, ◌≤◌, Bool, true, false, ◌⊎◌, List, [], ◌∷◌, length, get_or, set, replicate, refl, ap, ◌∙◌, inl, inr, arith}
use mathlib.Core.List.{Memᴰ}
use mathlib.Core.Path.{subst⁻¹}
use Rattle.std.proofs.lemmas.List.{get_or-set_same, length-set, map-set}
use Rattle.ledger.specs.Gather.{Marked}
use Rattle.memory.specs.declared.work.Place.{Place}
use Rattle.memory.specs.Shelves.{is_mark, marks_in}
use Rattle.memory.specs.Spreading.{with_mark, with_marks}

set_stays : (ms : List Bool) (j i : ℕ) → get_or ms i false ≡ true → get_or (set ms j true) i false ≡ true
set_stays [] j i m = m
set_stays (b ∷ ms) zero zero m = refl
set_stays (b ∷ ms) zero (suc i) m = m
set_stays (b ∷ ms) (suc j) zero m = m
set_stays (b ∷ ms) (suc j) (suc i) m = set_stays ms j i m

set_cases : (ms : List Bool) (j i : ℕ) → get_or (set ms j true) i false ≡ true → (i ≡ j) ⊎ (get_or ms i false ≡ true)
set_cases [] j i m = inr m
set_cases (b ∷ ms) zero zero m = inl refl
set_cases (b ∷ ms) zero (suc i) m = inr m
set_cases (b ∷ ms) (suc j) zero m = inr m
set_cases (b ∷ ms) (suc j) (suc i) m = up (set_cases ms j i m)
  where
    up : (i ≡ j) ⊎ (get_or ms i false ≡ true) → (suc i ≡ suc j) ⊎ (get_or ms i false ≡ true)
    up (inl e) = inl (ap suc e)
    up (inr h) = inr h

pub mark_stays : (ms : List Bool) (n k : ℕ) → Marked ms k → Marked (with_mark ms n) k
mark_stays ms n zero m = tt
mark_stays ms n (suc zero) m = tt
mark_stays ms zero (suc (suc i)) m = m
mark_stays ms (suc zero) (suc (suc i)) m = m
mark_stays ms (suc (suc j)) (suc (suc i)) m = set_stays ms j i m

pub mark_here : (ms : List Bool) (n : ℕ) → n ≤ length ms + 1 → Marked (with_mark ms n) n
mark_here ms zero h = tt
mark_here ms (suc zero) h = tt
mark_here ms (suc (suc j)) h = get_or-set_same ms j true false (omega arith)

pub mark_cases : (ms : List Bool) (n k : ℕ) → Marked (with_mark ms n) k → (k ≡ n) ⊎ Marked ms k
mark_cases ms n zero m = inr tt
mark_cases ms n (suc zero) m = inr tt
mark_cases ms zero (suc (suc i)) m = inr m
mark_cases ms (suc zero) (suc (suc i)) m = inr m
mark_cases ms (suc (suc j)) (suc (suc i)) m = up (set_cases ms j i m)
  where
    up : (i ≡ j) ⊎ (get_or ms i false ≡ true) → (suc (suc i) ≡ suc (suc j)) ⊎ (get_or ms i false ≡ true)
    up (inl e) = inl (ap (λ x. suc (suc x)) e)
    up (inr h) = inr h

pub length_mark : (ms : List Bool) (n : ℕ) → length (with_mark ms n) ≡ length ms
length_mark ms zero = refl
length_mark ms (suc zero) = refl
length_mark ms (suc (suc k)) = length-set ms k true

-- many marks more
marks_stay : (ns : List ℕ) (ms : List Bool) (k : ℕ) → Marked ms k → Marked (with_marks ms ns) k
marks_stay [] ms k m = m
marks_stay (n ∷ ns) ms k m = marks_stay ns (with_mark ms n) k (mark_stays ms n k m)

pub marks_here : (ns : List ℕ) (ms : List Bool) (k : ℕ) → Memᴰ k ns → k ≤ length ms + 1 → Marked (with_marks ms ns) k
marks_here [] ms k i h = elim i [ ]
marks_here (n ∷ ns) ms k (Memᴰ.head e) h =
    marks_stay ns (with_mark ms n) k (subst⁻¹ (Marked (with_mark ms n)) e (mark_here ms n (omega arith)))
marks_here (n ∷ ns) ms k (Memᴰ.tail i) h = marks_here ns (with_mark ms n) k i (let l = length_mark ms n in omega arith)

pub marks_cases : (ns : List ℕ) (ms : List Bool) (k : ℕ) → Marked (with_marks ms ns) k → Memᴰ k ns ⊎ Marked ms k
marks_cases [] ms k m = inr m
marks_cases (n ∷ ns) ms k m = later (marks_cases ns (with_mark ms n) k m)
  where
    first : (k ≡ n) ⊎ Marked ms k → Memᴰ k (n ∷ ns) ⊎ Marked ms k
    first (inl e) = inl (Memᴰ.head e)
    first (inr h) = inr h

    later : Memᴰ k ns ⊎ Marked (with_mark ms n) k → Memᴰ k (n ∷ ns) ⊎ Marked ms k
    later (inl i) = inl (Memᴰ.tail i)
    later (inr h) = first (mark_cases ms n k h)

pub length_marks : (ns : List ℕ) (ms : List Bool) → length (with_marks ms ns) ≡ length ms
length_marks [] ms = refl
length_marks (n ∷ ns) ms = length_marks ns (with_mark ms n) ∙ length_mark ms n

-- marks as places hold them
pub place_marked : (ps : List Place) (n : ℕ) (p : Place) → 2 ≤ n → is_mark p ≡ true → marks_in (set ps (n - 2) p) ≡ with_mark (marks_in ps) n
place_marked ps zero p l e = absurd (omega arith)
place_marked ps (suc zero) p l e = absurd (omega arith)
place_marked ps (suc (suc k)) p l e =
    let back : suc (suc k) - 2 ≡ k = omega arith in
    rw back (map-set is_mark ps k p ∙ ap (set (marks_in ps) k) e)

-- no vertex is marked
abbrev pub Unmarked : List Bool → Type 0
Unmarked ms = (k : ℕ) → get_or ms k false ≡ false

pub unmarked_all : (ps : List Place) (n : ℕ) (p : Place) → is_mark p ≡ false → ps ≡ replicate n p → Unmarked (marks_in ps)
unmarked_all ps n p u e k = ap (λ qs. get_or (marks_in qs) k false) e ∙ by n k
  where
    by : (n k : ℕ) → get_or (marks_in (replicate n p)) k false ≡ false
    by zero k = refl
    by (suc n) zero = u
    by (suc n) (suc k) = by n k
