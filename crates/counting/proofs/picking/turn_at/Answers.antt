use Rattle.std.proofs.Common.{arith}
use Rattle.counting.proofs.Turns.{turn_takes, turn_passes}
use Rattle.counting.proofs.picking.turn_at.Goals as goal

pub returns-in-None-clause-value : goal.returns-in-None-clause-value
returns-in-None-clause-value g c = λ walked.
    let sub = c.in-Some-checked_sub.ensures in
    turn_takes g.S.Symbol.before g.met.S.Symbol.ordered (g.B.Shelf.vertices c.args.shelf.now) walked.0.formed c.args.spot walked.2
    c.args.work.now walked.1 c.tally_at.result c.tally_at.ensures c.from-empty.result c.from-empty.ensures
    _ (c.in-Some.ensures.value walked.0.formed) c.in-Some-checked_sub.later (omega arith)
    c.tally_at-2.result c.tally_at-2.ensures c.in-None.ensures.value

pub returns-in-Some-left_of-clause-value : goal.returns-in-Some-left_of-clause-value
returns-in-Some-left_of-clause-value g c = λ walked.
    let sub = c.in-Some-checked_sub.ensures in
    turn_passes g.S.Symbol.before g.met.S.Symbol.ordered (g.B.Shelf.vertices c.args.shelf.now) walked.0.formed c.args.spot walked.2
    c.args.work.now walked.1 c.tally_at.result c.tally_at.ensures c.from-empty.result c.from-empty.ensures
    _ (c.in-Some.ensures.value walked.0.formed) c.in-Some-checked_sub.later (omega arith)
    c.tally_at-2.result c.tally_at-2.ensures c.in-Some-left_of.left c.in-Some-left_of.ensures.value
