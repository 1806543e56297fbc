use Rattle.ledger.proofs.Members.{are_sets}
use Rattle.ledger.proofs.lists.are_sets.Goals as goal

pub returns : goal.returns
returns g c = are_sets g.S.Symbol.before g.met.S.Symbol.ordered
