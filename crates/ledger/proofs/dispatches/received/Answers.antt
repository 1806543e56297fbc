use Rattle.ledger.proofs.Bytes.{received}
use Rattle.ledger.proofs.dispatches.received.Goals as goal

pub returns : goal.returns
returns g c =
    let kind = g.S.WireSymbol.travel in
    received g.S.Symbol.before g.met.S.Symbol.ordered kind.kind kind.width kind.bytes kind.reads g.met.S.WireSymbol.wired
