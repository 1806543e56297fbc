use Rattle.std.proofs.Common.{sym, arith}
use Rattle.paths.proofs.Unwinding.{lays_as_it_is, unwound_lays}
use Rattle.paths.proofs.changing.alter.Goals as goal

pub returns-then-is_settled-clause-answer : goal.returns-then-is_settled-clause-answer
returns-then-is_settled-clause-answer g c ready sound good =
    lays_as_it_is g.S.Symbol.before g.met.S.Symbol.ordered _ sound c.args.list good c.args.change c.args.code.now c.descend-held.result (c.descend-held.ensures.member sound good)
    (sym c.if-is_settled.ensures) (g.B.Shelf.capacity c.args.shelf.now) (g.B.Shelf.bounds c.args.shelf.now).0

pub returns-else-is_err-clause-answer : goal.returns-else-is_err-clause-answer
returns-else-is_err-clause-answer g c ready sound good =
    unwound_lays g.S.Symbol.before g.met.S.Symbol.ordered _ sound c.args.change c.end.result c.end.ensures c.args.code.now c.descend-held.new.stack.frames _
    (c.descend-held.ensures.waits sound good c.args.change) (g.B.Shelf.capacity c.args.shelf.now) c.unwind-altered.result (g.B.Shelf.vertices c.unwind-altered.new.shelf) (sym c.if-is_err.ensures.value)
    (omega (arith, g.B.Shelf.bounds c.unwind-altered.new.shelf, c.unwind-altered.ensures.size)) (c.unwind-altered.ensures.answer ready)
