use Rattle.std.proofs.Common.{◌≤◌, length, sym, ◌∙◌, arith}
use Rattle.receiving.proofs.Downward.{stands}
use Rattle.receiving.proofs.records.Records.lay_down.Goals as goal

pub returns-else-is_err-clause-answer : goal.returns-else-is_err-clause-answer
returns-else-is_err-clause-answer g c = λ ready good w s.
    let size = c.lay_records-laid.ensures.size in
    let room : length (g.B.Shelf.vertices c.lay_records-laid.new.shelf) ≤ g.B.Shelf.capacity c.args.shelf.now = omega (arith, g.B.Shelf.bounds c.lay_records-laid.new.shelf) in
    stands g.S.Symbol.before g.met.S.Symbol.ordered _ _ _ _ c.lay_records-laid.result (sym c.is_err.ensures.value ∙ c.if-is_err.false) room (c.lay_records-laid.ensures.answer ready good w s)
