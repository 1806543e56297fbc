-- What is asked of lists: whether a code is in one, joins by a rule, a list with or without a code, and what remains
-- under a code.
use Rattle.std.specs.Prelude.{ℕ, ◌/◌, ◌%◌, Bool, true, false, cond, List, [], ◌∷◌, ◌==◌}
use Rattle.symbols.specs.Order.{same_symbol}
use Rattle.ledger.specs.Lists.{Codes, none, blank, begun}

-- whether a code is in a list
abbrev pub has : {S : Type 0} → (S → S → Bool) → Codes S → List S → Bool
has before none c = false
has before blank [] = true
has before blank (s ∷ c) = false
has before (begun a outer inner) [] = has before outer []
has before (begun a outer inner) (s ∷ c) = cond (same_symbol before a s) (has before inner c) (has before outer (s ∷ c))

-- the rule of a join is a sum: 1 takes codes only in the first list, 2 only in the second, 4 those in both
abbrev pub takes : ℕ → Bool → Bool → Bool
takes rule false false = false
takes rule true false = rule % 2 == 1
takes rule false true = rule / 2 % 2 == 1
takes rule true true = rule / 4 % 2 == 1

-- the list with this head, this outer and this inner list; the outer list, if there is nothing inside
abbrev pub make : {S : Type 0} → S → Codes S → Codes S → Codes S
make a outer none = outer
make a outer blank = begun a outer blank
make a outer (begun b y p) = begun a outer (begun b y p)

-- joining two lists: f says which codes stay, of those in the first or not and in the second or not
abbrev pub join_blank : {S : Type 0} → (Bool → Bool → Bool) → Codes S → Codes S
join_blank f none = cond (f true false) blank none
join_blank f blank = cond (f true true) blank none
join_blank f (begun b y p) = make b (join_blank f y) (cond (f false true) p none)

abbrev pub join_over : {S : Type 0} → (S → S → Bool) → (Bool → Bool → Bool) → S → Codes S → Codes S → (Codes S → Codes S) → (Codes S → Codes S) → Codes S → Codes S
join_over before f a z o jz jo none = cond (f true false) (begun a z o) none
join_over before f a z o jz jo blank = make a (jz blank) (cond (f true false) o none)
join_over before f a z o jz jo (begun b y p) =
    cond (before a b) (make a (jz (begun b y p)) (cond (f true false) o none))
    (cond (before b a) (make b (join_over before f a z o jz jo y) (cond (f false true) p none)) (make a (jz y) (jo p)))

abbrev pub join : {S : Type 0} → (S → S → Bool) → (Bool → Bool → Bool) → Codes S → Codes S → Codes S
join before f none u = cond (f false true) u none
join before f blank u = join_blank f u
join before f (begun a z o) u = join_over before f a z o (λ x. join before f z x) (λ x. join before f o x) u

-- the list of one code
abbrev pub single : {S : Type 0} → List S → Codes S
single [] = blank
single (s ∷ c) = begun s none (single c)

-- a list with a code, and without one: rule 7 and rule 1 with the list of that code
abbrev pub added : {S : Type 0} → (S → S → Bool) → Codes S → List S → Codes S
added before t c = join before (takes 7) t (single c)

abbrev pub removed : {S : Type 0} → (S → S → Bool) → Codes S → List S → Codes S
removed before t c = join before (takes 1) t (single c)

-- what remains of the codes that begin with a code, that code taken off
abbrev pub under : {S : Type 0} → (S → S → Bool) → Codes S → List S → Codes S
under before t [] = t
under before none (s ∷ c) = none
under before blank (s ∷ c) = none
under before (begun a z o) (s ∷ c) = cond (same_symbol before a s) (under before o c) (under before z (s ∷ c))
