use Rattle.std.proofs.Common.{◌≡◌, drop}
use Rattle.memory.specs.Shelves.{marks_in}
use Rattle.memory.specs.Spreading.{with_marks}
use Rattle.memory.proofs.reached.mark_each.Given as goal

abbrev pub invariant-loop-list : goal.invariant-loop-list
invariant-loop-list l = with_marks (marks_in l.marks) (drop l.list-index l.lists) ≡ with_marks (marks_in l.initial.marks) l.lists
