use Rattle.ledger.proofs.Forming.{accepted}
use Rattle.ledger.proofs.dispatches.accepted.Goals as goal

pub returns : goal.returns
returns g c = accepted g.S.Symbol.before g.met.S.Symbol.ordered
