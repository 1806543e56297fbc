use Rattle.ledger.proofs.Changing.{laid_down}
use Rattle.ledger.proofs.Settling.{laying_is}
use Rattle.ledger.proofs.changes.laying_down.Goals as goal

pub returns : goal.returns
returns g c vs sound t proper =
    let before = g.S.Symbol.before in
    let order = g.met.S.Symbol.ordered in
    (laid_down before order vs sound t proper, laying_is before order vs t sound proper)
