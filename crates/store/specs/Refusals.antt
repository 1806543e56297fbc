-- The number of each refusal, and what it carries.
use Rattle.counting.specs.declared.picking.PickFault.{PickFault}
use Rattle.counting.specs.declared.picking.PickFault.TheVariants as pick
use Rattle.store.specs.declared.fault.Fault.{Fault}
use Rattle.store.specs.declared.fault.Fault.TheVariants.{NoSuchList, CodeTooLong, NoSuchRule, ShortOutput, LittleWork, TooManyCodes, NoSuchCode, ShelfFull}
use Rattle.symbols.specs.declared.Refusal.{Refusal}
use Rattle.symbols.specs.Refusals.{carrying, plain}

abbrev pub refusal : Fault → Refusal
refusal (NoSuchList place) = carrying 2 place
refusal CodeTooLong = plain 4
refusal NoSuchRule = plain 5
refusal ShortOutput = plain 8
refusal LittleWork = plain 3
refusal TooManyCodes = plain 6
refusal NoSuchCode = plain 7
refusal ShelfFull = plain 9

-- why no code is picked, as the store says it
abbrev pub from_pick : PickFault → Fault
from_pick pick.TooMany = TooManyCodes
from_pick pick.NoSuchCode = NoSuchCode
