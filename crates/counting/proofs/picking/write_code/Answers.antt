use Rattle.std.proofs.Common.{length, drop, ap, ◌∙◌, arith}
use Rattle.ledger.specs.Ledger.{codes}
use Rattle.counting.specs.Courses.{whole}
use Rattle.counting.proofs.Turns.{drop_then, whole_writes}
use Rattle.counting.proofs.picking.write_code.Goals as goal

pub loop-next-preserved : goal.loop-next-preserved
loop-next-preserved g c =
    let falls = c.in-Some.ensures.below in (
      falls.2,
      drop_then c.loop-next.course.length c.in-Some.next.length c.args.out.now c.loop-next.out c.advance.new.out falls.1 c.loop-next.invariant.1 c.in-Some.ensures.kept,
      λ walked.
          let came = c.loop-next.invariant.2 walked in
          let goes = c.in-Some.ensures.value came.0 in
          ((came.0.0, λ k h. came.0.1 k (omega arith), goes.0), goes.1 ∙ came.1),
    )

pub returns-clause-value : goal.returns-clause-value
returns-clause-value g c = λ walked short.
    let same = c.in_default.ensures.kept in
    let came = c.loop-next.invariant.2 walked in
    let ends = c.in_default.ensures.value came.0 in
    whole_writes g.S.Symbol.before g.met.S.Symbol.ordered (g.B.Shelf.vertices c.args.shelf.now) c.loop-next.course
    (codes (g.B.Shelf.vertices c.args.shelf.now) c.args.spot.list) c.args.spot.before c.args.out.now c.advance.new.out
    (let long = ap length same in omega arith) c.loop-next.invariant.0 (ap (drop c.loop-next.course.length) same ∙ c.loop-next.invariant.1) short
    (ap (whole (g.B.Shelf.vertices c.args.shelf.now) c.loop-next.course) same ∙ came.1) ends.0 ends.1 ends.2
