use Rattle.memory.proofs.Marking.{Numbering}
use Rattle.memory.proofs.marks.number_marks.Given as goal

abbrev pub invariant-loop-place : goal.invariant-loop-place
invariant-loop-place l = Numbering l.initial.marks l.marks l.count l.place-index
