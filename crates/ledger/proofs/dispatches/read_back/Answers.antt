use Rattle.ledger.proofs.Attaining.{written}
use Rattle.ledger.proofs.dispatches.read_back.Goals as goal

pub returns : goal.returns
returns g c t proper = let l = written g.S.Symbol.before g.met.S.Symbol.ordered t proper in (l.sound, l.good, l.is)
