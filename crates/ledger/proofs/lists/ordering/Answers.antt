use Rattle.ledger.proofs.Picking.{ordering}
use Rattle.ledger.proofs.lists.ordering.Goals as goal

pub returns : goal.returns
returns g c = ordering g.S.Symbol.before g.met.S.Symbol.ordered
