use Rattle.std.proofs.Common.{◌+◌, map}
use Rattle.memory.specs.Shelves.{marks_in}
use Rattle.memory.proofs.Gathers.{StayBelow}
use Rattle.memory.proofs.records.all_stay.Given as goal

abbrev pub invariant-loop-i : goal.invariant-loop-i
invariant-loop-i g l = StayBelow (marks_in l.marks) (map g.T.Record.vertex l.records) (l.i + 2)
