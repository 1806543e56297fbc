use Rattle.ledger.proofs.Members.{by_code}
use Rattle.ledger.proofs.lists.changing.Goals as goal

pub returns : goal.returns
returns g c = by_code g.S.Symbol.before g.met.S.Symbol.ordered
