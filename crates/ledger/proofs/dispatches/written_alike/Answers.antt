use Rattle.ledger.proofs.Bytes.{dispatches_alike}
use Rattle.ledger.proofs.dispatches.written_alike.Goals as goal

pub returns : goal.returns
returns g c =
    let kind = g.S.WireSymbol.travel in
    dispatches_alike g.S.Symbol.before g.met.S.Symbol.ordered kind.kind kind.width kind.bytes kind.reads g.met.S.WireSymbol.wired
