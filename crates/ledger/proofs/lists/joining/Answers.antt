use Rattle.ledger.proofs.Members.{joins}
use Rattle.ledger.proofs.lists.joining.Goals as goal

pub returns : goal.returns
returns g c = joins g.S.Symbol.before g.met.S.Symbol.ordered
