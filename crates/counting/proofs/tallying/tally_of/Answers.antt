use mathlib.Core.Path.{subst⁻¹}
use Rattle.std.proofs.Common.{arith}
use Rattle.ledger.specs.Ledger.{codes}
use Rattle.counting.specs.Tallies.{Tells}
use Rattle.counting.proofs.Sizes.{read_codes, tells_begun}
use Rattle.counting.proofs.tallying.tally_of.Goals as goal

pub returns : goal.returns
returns g c = λ sound good tallied.
    let below = c.in-Some.ensures.below in
    tells_begun (codes (g.B.Shelf.vertices c.args.shelf.now) c.args.n) _ (codes (g.B.Shelf.vertices c.args.shelf.now) c.in-Some.zero) (codes (g.B.Shelf.vertices c.args.shelf.now) c.in-Some.one)
    (read_codes g.S.Symbol.before g.met.S.Symbol.ordered (g.B.Shelf.vertices c.args.shelf.now) sound.formed c.args.n _ (c.in-Some.ensures.value sound.formed))
    c.tally_at-outer.result c.tally_at-inner.result
    (subst⁻¹ (Tells (codes (g.B.Shelf.vertices c.args.shelf.now) c.in-Some.zero)) c.tally_at-outer.ensures (tallied c.in-Some.zero (omega arith)))
    (subst⁻¹ (Tells (codes (g.B.Shelf.vertices c.args.shelf.now) c.in-Some.one)) c.tally_at-inner.ensures (tallied c.in-Some.one (omega arith)))
    c.total.result c.total.ensures
