use Rattle.receiving.proofs.Reread.{takes_written}
use Rattle.receiving.proofs.inverse.takes_written.Goals as goal

pub returns : goal.returns
returns g c = takes_written g.S.Symbol.before g.met.S.Symbol.ordered g.S.WireSymbol.travel g.met.S.WireSymbol.wired
