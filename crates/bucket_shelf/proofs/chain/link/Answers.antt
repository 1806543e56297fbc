use Rattle.std.proofs.Common.{get_or, refl, arith}
use Rattle.std.proofs.lemmas.List.{map-set}
use Rattle.bucket_shelf.specs.declared.Entry.{Entry}
use Rattle.bucket_shelf.specs.Chains.{vertex_of, room_records}
use Rattle.bucket_shelf.proofs.Chaining.{chained_link}
use Rattle.bucket_shelf.proofs.chain.link.Goals as goal

pub returns : goal.returns
returns g c =
    let e : Entry g.row.S.Denot = record { vertex = c.args.vertex; next = get_or c.args.heads.now c.args.at 0 } in
    let here = room_records c.args.records.now c.args.heads.now in
    record {
      vertices = map-set vertex_of c.args.records.now c.args.i e;
      ready = λ h. chained_link g.S.Symbol.scatter c.args.records.now c.args.heads.now c.args.i c.args.at e refl (omega arith) c.requires.bucket (omega arith) h;
    }
