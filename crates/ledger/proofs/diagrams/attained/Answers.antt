use Rattle.ledger.proofs.Attaining.{attained}
use Rattle.ledger.proofs.diagrams.attained.Goals as goal

pub returns : goal.returns
returns g c = attained g.S.Symbol.before g.met.S.Symbol.ordered
