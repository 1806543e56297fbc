use Rattle.std.proofs.Common.{refl, arith}
use Rattle.counting.proofs.Turns.{whole_takes}
use Rattle.counting.proofs.picking.advance.Goals as goal

pub returns-else-course-ge-LONGEST_CODE-clause-value : goal.returns-else-course-ge-LONGEST_CODE-clause-value
returns-else-course-ge-LONGEST_CODE-clause-value g c = λ walked.
    let turn = c.in-Takes.ensures.value walked in (
      turn.0,
      whole_takes (g.B.Shelf.vertices c.args.shelf.now) c.args.course c.args.out.now _ c.in-Takes.label c.in-Takes.rest (omega arith) refl turn.1,
    )
