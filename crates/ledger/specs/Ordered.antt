-- The codes of a list in their order: a code comes before one that it begins; else the first differing symbol decides.
use Rattle.std.specs.Prelude.{◌≡◌, Bool, true, false, cond, List, [], ◌∷◌, ◌++◌, map}
use mathlib.Core.List.{Memᴰ}
use Rattle.ledger.specs.Lists.{Codes, none, blank, begun}

abbrev pub code_before : {S : Type 0} → (S → S → Bool) → List S → List S → Bool
code_before before [] [] = false
code_before before [] (t ∷ d) = true
code_before before (s ∷ c) [] = false
code_before before (s ∷ c) (t ∷ d) = cond (before s t) true (cond (before t s) false (code_before before c d))

abbrev pub blank_in : {S : Type 0} → Codes S → Bool
blank_in none = false
blank_in blank = true
blank_in (begun a outer inner) = blank_in outer

abbrev pub with_empty : {S : Type 0} → Bool → List (List S) → List (List S)
with_empty true l = [] ∷ l
with_empty false l = l

-- all codes but the empty one
abbrev pub later_codes : {S : Type 0} → Codes S → List (List S)
later_codes none = []
later_codes blank = []
later_codes (begun a outer inner) = map (λ c. a ∷ c) (with_empty (blank_in inner) (later_codes inner)) ++ later_codes outer

-- count is its length, and pick k its element with k before it
abbrev pub ordered : {S : Type 0} → Codes S → List (List S)
ordered t = with_empty (blank_in t) (later_codes t)

abbrev pub Ascending : {S : Type 0} → (S → S → Bool) → List (List S) → Type 0
Ascending before [] = Unit {0}
Ascending {S} before (c ∷ l) = ((d : List S) → Memᴰ d l → code_before before c d ≡ true) × Ascending before l
