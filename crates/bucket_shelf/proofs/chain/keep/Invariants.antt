use Rattle.memory.specs.Marks.{noted_vertex}
use Rattle.memory.specs.Shelves.{marks_in}
use Rattle.memory.proofs.Keeping.{Keeps}
use Rattle.bucket_shelf.specs.Chains.{vertices_in, Chained}
use Rattle.bucket_shelf.proofs.chain.keep.Given as goal

abbrev pub invariant-loop-i : goal.invariant-loop-i
invariant-loop-i g l =
    Keeps (noted_vertex l.marks) (marks_in l.marks) (vertices_in l.initial.records) (vertices_in l.records) l.to l.i ×
    Chained g.S.Symbol.scatter l.records l.heads l.to
