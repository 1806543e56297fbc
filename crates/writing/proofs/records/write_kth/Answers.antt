use Rattle.std.proofs.Common.{◌+◌, ◌-◌, ◌*◌, ◌≤◌, length, take, drop, arith, length-take}
use Rattle.wire.specs.Records.{record_bytes}
use Rattle.writing.proofs.Filling.{record_within, put_record, put_kept, length_record}
use Rattle.writing.proofs.records.write_kth.Goals as goal

pub returns-in-Some : goal.returns-in-Some
returns-in-Some g c =
    let size = c.record_length-size.result in
    let width = g.S.WireSymbol.travel.width in
    let from = 14 + c.args.k * size in
    let part = take (from + size - from) (drop from c.args.out.now) in
    let rec = record_bytes g.S.WireSymbol.travel.bytes c.in-Some.vertex in
    let same = c.record_length-size.ensures in
    let short : length part ≤ width + 8 = omega (arith, length-take (from + size - from) (drop from c.args.out.now), same) in
    let put = put_record c.args.k size width c.args.out.now c.write_record.new.out part rec same short c.write_record.ensures in
    let within = record_within (width + 8) c.args.k c.args.seen.now.met (length c.args.out.now) c.requires.here c.requires.room in
    record {
      kept =
          put_kept c.args.k width c.args.out.now rec _ (length_record g.S.WireSymbol.travel.bytes width c.in-Some.vertex (g.met.S.WireSymbol.wired.long c.in-Some.vertex.label))
          (omega arith) put;
      value = λ formed size. (c.in-Some.vertex, c.in-Some.ensures formed size, put);
    }
