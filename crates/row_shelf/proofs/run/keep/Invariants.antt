use Rattle.memory.specs.Marks.{noted_vertex}
use Rattle.memory.specs.Shelves.{marks_in}
use Rattle.memory.proofs.Keeping.{Keeps}
use Rattle.row_shelf.proofs.run.keep.Given as goal

abbrev pub invariant-loop-i : goal.invariant-loop-i
invariant-loop-i g l = Keeps (noted_vertex l.marks) (marks_in l.marks) l.initial.run l.run l.to l.i
