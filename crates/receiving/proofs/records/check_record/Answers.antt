use Rattle.std.proofs.Common.{sym}
use Rattle.receiving.specs.Checks.{record_at}
use Rattle.receiving.proofs.Checking.{zero_within}
use Rattle.receiving.proofs.records.check_record.Goals as goal

pub zero_label_after-requires : goal.zero_label_after-requires
zero_label_after-requires g c =
    let w = g.S.WireSymbol.travel in
    zero_within w c.args.k (record_at w.width c.args.records.now c.args.k) c.in_ok-vertex.vertex _
    (sym c.in_ok-vertex.ensures) c.requires.there
