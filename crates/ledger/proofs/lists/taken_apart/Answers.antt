use Rattle.ledger.proofs.Members.{falls_apart}
use Rattle.ledger.proofs.lists.taken_apart.Goals as goal

pub returns : goal.returns
returns g c = falls_apart g.S.Symbol.before g.met.S.Symbol.ordered
