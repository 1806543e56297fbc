-- The number of each refusal of a dispatch, and what it carries.
use Rattle.std.specs.Prelude.{ℕ, Some}
use Rattle.symbols.specs.declared.Refusal.{Refusal}
use Rattle.symbols.specs.Refusals.{carrying, plain}
use Rattle.wire.specs.declared.faults.RecordFault.{RecordFault}
use Rattle.wire.specs.declared.faults.RecordFault.TheVariants.{Label, LinkNotBelow, OneLinkZero, LabelNotAfter}
use Rattle.wire.specs.declared.faults.FaultyRecord.{FaultyRecord}
use Rattle.wire.specs.declared.faults.ReceiveFault.{ReceiveFault}
use Rattle.wire.specs.declared.faults.ReceiveFault.TheVariants.{LittleWork, BadLength, OtherVersion, OtherKind, Record, NotAsWritten, CodeTooLong, ShelfFull}

-- what is wrong with a record, told with the record's place; a label's fault carries the symbol's own refusal whole
abbrev pub placed_refusal : ℕ → RecordFault → Refusal
placed_refusal place (Label e) = record { number = 13; detail = place; symbol = Some e }
placed_refusal place LinkNotBelow = carrying 14 place
placed_refusal place OneLinkZero = carrying 15 place
placed_refusal place LabelNotAfter = carrying 16 place

abbrev pub record_refusal : FaultyRecord → Refusal
record_refusal f = placed_refusal f.place f.fault

abbrev pub receive_refusal : ReceiveFault → Refusal
receive_refusal LittleWork = plain 3
receive_refusal BadLength = plain 10
receive_refusal OtherVersion = plain 11
receive_refusal OtherKind = plain 12
receive_refusal (Record f) = record_refusal f
receive_refusal NotAsWritten = plain 17
receive_refusal CodeTooLong = plain 4
receive_refusal ShelfFull = plain 9
