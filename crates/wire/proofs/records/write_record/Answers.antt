use Rattle.wire.proofs.Putting.{recorded}
use Rattle.wire.proofs.records.write_record.Goals as goal

pub returns : goal.returns
returns g c =
    recorded _ c.args.out.now c.write.new.out c.write_links.new.out c.width.result g.S.WireSymbol.travel.width c.args.v.now.zero c.args.v.now.one
    (g.met.S.WireSymbol.wired.long c.args.v.now.label) c.width.ensures c.write.ensures c.write_links.ensures
