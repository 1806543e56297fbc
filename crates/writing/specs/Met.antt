-- The vertices that a walk has met, as places keep them.
use Rattle.std.specs.Prelude.{◌≡◌, ℕ, zero, suc, ◌+◌, ◌-◌, ◌<◌, ◌≤◌, Bool, true, false, ◌⊎◌, List, [], ◌∷◌, ◌++◌, length, get_or, Some, None, Option, ◌≢◌, slice_index_or, slice_set}
use Rattle.memory.specs.declared.work.Place.{Place}

abbrev pub vacant : Place
vacant = record { state = 0; list = 0; other = 0; number = 0; count = 0 }

abbrev pub list_at : List Place → ℕ → ℕ
list_at ps k = (get_or ps k vacant).list

abbrev pub number_at : List Place → ℕ → ℕ
number_at ps k = (get_or ps k vacant).number

-- the first m numbers of the order
abbrev pub met_numbers : List Place → ℕ → List ℕ
met_numbers ps zero = []
met_numbers ps (suc m) = met_numbers ps m ++ list_at ps m ∷ []

-- each of them is a vertex's, and the vertex's own place has where it stands
abbrev pub Sparse : List Place → ℕ → Type 0
Sparse ps m = (k : ℕ) → k < m → (2 ≤ list_at ps k) × (list_at ps k ≤ length ps + 1) × (number_at ps (list_at ps k - 2) ≡ k)

-- a number is among them, or is not
abbrev pub Met : List Place → ℕ → ℕ → Type 0
Met ps m n = (k : ℕ) × (k < m) × (list_at ps k ≡ n)

abbrev pub Unmet : List Place → ℕ → ℕ → Type 0
Unmet ps m n = (k : ℕ) → k < m → list_at ps k ≢ n

-- where a number stands
abbrev pub Stands : List Place → ℕ → ℕ → Option ℕ → Type 0
Stands ps m n (Some k) = (k < m) × (list_at ps k ≡ n)
Stands ps m n None = Unmet ps m n

-- whether a link is a vertex that is not met
abbrev pub MetOrNot : List Place → ℕ → ℕ → Bool → Type 0
MetOrNot ps m link true = (2 ≤ link) × Unmet ps m link
MetOrNot ps m link false = (link < 2) ⊎ Met ps m link

-- a link's new number: terminals stay, and the numbers that are met are counted from 2
abbrev pub NewLink : List Place → ℕ → ℕ → ℕ → Type 0
NewLink ps m link r = (link < 2 → r ≡ link) × ((k : ℕ) → k < m → list_at ps k ≡ link → r ≡ k + 2)

abbrev pub listing : Place → ℕ → Place
listing p n = record { state = p.state; list = n; other = p.other; number = p.number; count = p.count }

abbrev pub numbering : Place → ℕ → Place
numbering p k = record { state = p.state; list = p.list; other = p.other; number = k; count = p.count }

-- the places after a vertex becomes the next in the order
abbrev pub with_listed : List Place → ℕ → ℕ → List Place
with_listed ps m n = slice_set ps m (listing (slice_index_or ps m vacant) n)

abbrev pub with_met : List Place → ℕ → ℕ → List Place
with_met ps m n = slice_set (with_listed ps m n) (n - 2) (numbering (slice_index_or (with_listed ps m n) (n - 2) vacant) m)
