-- Lists: finite sets of codes. A code is a sequence of symbols.
--
-- List 0 has no code, and list 1 has the empty code alone. Every other list has a head, the earliest first symbol of its
-- codes; an inner list, what remains of the codes that begin with the head, the head taken off; and an outer list, all
-- its other codes. `Codes` is a list taken apart in this way, down to lists 0 and 1.
use Rattle.std.specs.Prelude.{◌≡◌, Bool, true, false, ◌&&◌, ◌⊎◌, ◌↔◌, List, [], ◌∷◌}
use Rattle.symbols.specs.Order.{same_symbol}

-- begun head outer inner
pub data Codes (S : Type 0) : Type 0 where
  none : Codes S
  blank : Codes S
  begun : S → Codes S → Codes S → Codes S

-- a code of the list
abbrev pub Member : {S : Type 0} → Codes S → List S → Type 0
Member none c = ⊥
Member blank c = c ≡ []
Member {S} (begun a outer inner) c = Member outer c ⊎ ((rest : List S) × (c ≡ a ∷ rest) × Member inner rest)

-- the symbol comes before the head, if there is one
abbrev pub Comes : {S : Type 0} → (S → S → Bool) → S → Codes S → Type 0
Comes before a none = Unit {0}
Comes before a blank = Unit {0}
Comes before a (begun b outer inner) = before a b ≡ true

-- the list is not list 0
abbrev pub SomeCode : {S : Type 0} → Codes S → Type 0
SomeCode none = ⊥
SomeCode blank = Unit {0}
SomeCode (begun a outer inner) = Unit {0}

-- taken apart as it should be: each head comes before that of its outer list, and some code begins with it
abbrev pub Proper : {S : Type 0} → (S → S → Bool) → Codes S → Type 0
Proper before none = Unit {0}
Proper before blank = Unit {0}
Proper before (begun a outer inner) = Comes before a outer × SomeCode inner × Proper before outer × Proper before inner

abbrev pub SameMembers : {S : Type 0} → Codes S → Codes S → Type 0
SameMembers {S} t u = (c : List S) → Member t c ↔ Member u c

-- whether two lists are the same, symbol by symbol
abbrev pub same : {S : Type 0} → (S → S → Bool) → Codes S → Codes S → Bool
same before none none = true
same before none blank = false
same before none (begun b y p) = false
same before blank none = false
same before blank blank = true
same before blank (begun b y p) = false
same before (begun a z o) none = false
same before (begun a z o) blank = false
same before (begun a z o) (begun b y p) = same_symbol before a b && (same before z y && same before o p)

-- the parts of a list: itself, and the parts of its outer and its inner list
abbrev pub Part : {S : Type 0} → Codes S → Codes S → Type 0
Part none u = none ≡ u
Part blank u = blank ≡ u
Part (begun a outer inner) u = (begun a outer inner ≡ u) ⊎ (Part outer u ⊎ Part inner u)
