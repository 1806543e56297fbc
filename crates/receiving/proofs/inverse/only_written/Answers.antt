use Rattle.receiving.proofs.Accepting.{only_written}
use Rattle.receiving.proofs.inverse.only_written.Goals as goal

pub returns : goal.returns
returns g c = only_written g.S.Symbol.before g.met.S.Symbol.ordered g.S.WireSymbol.travel
