use Rattle.ledger.proofs.Changing.{clearing_out}
use Rattle.ledger.proofs.changes.clearing_out.Goals as goal

pub returns : goal.returns
returns g c = clearing_out g.S.Symbol.before g.met.S.Symbol.ordered
