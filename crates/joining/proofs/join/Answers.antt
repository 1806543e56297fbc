use Rattle.std.proofs.Common.{rules, sym, arith}
use Rattle.joining.proofs.Landing.{walked_lays}
use Rattle.joining.proofs.join.Goals as goal

pub returns-else-is_err-clause-answer : goal.returns-else-is_err-clause-answer
returns-else-is_err-clause-answer g c ready sound first second right =
    walked_lays g.S.Symbol.before g.met.S.Symbol.ordered _ _ _ _ _ _ (c.run-joined.ensures.answer ready sound first second right) (sym c.if-is_err.ensures.value)
    (omega (arith, g.B.Shelf.bounds c.run-joined.new.self.shelf.now, c.run-joined.ensures.size)) _ _ (search rules) (search rules)
