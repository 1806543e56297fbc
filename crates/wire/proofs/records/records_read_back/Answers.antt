use Rattle.wire.proofs.Reading.{records_back}
use Rattle.wire.proofs.records.records_read_back.Goals as goal

pub returns : goal.returns
returns g c =
    records_back g.S.Symbol.before g.met.S.Symbol.ordered g.S.WireSymbol.travel g.met.S.WireSymbol.wired
