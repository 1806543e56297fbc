-- A list changed by a code.
use Rattle.std.specs.Prelude.{ℕ, Bool, not, List}
use Rattle.ledger.specs.Lists.{Codes}
use Rattle.ledger.specs.Operations.{takes, join, single}
use Rattle.paths.specs.declared.changing.Change.{Change}
use Rattle.paths.specs.declared.changing.Change.TheVariants.{Add, Remove}

-- the rule of the join with the list of the code
abbrev pub rule : Change → ℕ
rule Add = 7
rule Remove = 1

abbrev pub changed : {S : Type 0} → (S → S → Bool) → Change → Codes S → List S → Codes S
changed before change t c = join before (takes (rule change)) t (single c)

-- whether a code that is in the list, or not, is so after the change too
abbrev pub as_it_is : Change → Bool → Bool
as_it_is Add held = held
as_it_is Remove held = not held

-- the terminal at the end of the code's path after the change
abbrev pub end_number : Change → ℕ
end_number Add = 1
end_number Remove = 0
