use Rattle.std.proofs.Common.{◌≡◌, ◌++◌, map, take, drop}
use Rattle.memory.specs.Marks.{noted}
use Rattle.clearing.proofs.clearing.renumber_each.Given as goal

abbrev pub invariant-loop-list : goal.invariant-loop-list
invariant-loop-list l = l.lists ≡ map (noted l.marks) (take l.list-index l.initial.lists) ++ drop l.list-index l.initial.lists
