use Rattle.std.proofs.Common.{refl, arith}
use Rattle.memory.proofs.Marking.{numbering_none, numbering_more}
use Rattle.memory.proofs.marks.number_marks.Goals as goal

pub loop-place-init : goal.loop-place-init
loop-place-init c = numbering_none c.args.marks.now

pub loop-place-preserved : goal.loop-place-preserved
loop-place-preserved c =
    simp c.from-count.ensures
    (numbering_more c.args.marks.now c.loop-place.marks c.loop-place.count c.loop-place.place-index _ _
    (omega arith) refl refl c.loop-place.invariant)
