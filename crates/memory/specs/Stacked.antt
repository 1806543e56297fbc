-- A stack of places.
use Rattle.std.specs.Prelude.{ℕ, List, [], ◌∷◌, slice_index_or}
use Rattle.memory.specs.declared.work.Place.{Place}

-- the places on the stack, the top one first, and how many there may be
pub record Stacked : Type 0 where
  pub frames : List Place
  pub room : ℕ

abbrev pub blank : Place
blank = record { state = 0; list = 0; other = 0; number = 0; count = 0 }

-- the first n places, the last of them on top
abbrev pub stacked : List Place → ℕ → List Place
stacked places ℕ.zero = []
stacked places (ℕ.suc n) = slice_index_or places n blank ∷ stacked places n
