use Rattle.std.proofs.Common.{length, Some, sym, ap, ◌∙◌, arith}
use Rattle.std.specs.List.{slice_get}
use Rattle.std.specs.Result.{is_ok}
use Rattle.receiving.proofs.Checking.{ok_same, record_there}
use Rattle.receiving.proofs.records.Records.record.Goals as goal

pub unwrap-requires : goal.unwrap-requires
unwrap-requires g c =
    let W = c.self.invariant.1 in
    let n = ap length c.self.view_is in
    let r = record_there g.S.WireSymbol.travel c.self.inside.bytes.now _ W.reads c.args.k (omega arith) in
    ap is_ok (c.read_at.ensures ∙ r.2)

pub returns-clause-value : goal.returns-clause-value
returns-clause-value g c =
    let W = c.self.invariant.1 in
    let n = ap length c.self.view_is in
    let r = record_there g.S.WireSymbol.travel c.self.inside.bytes.now _ W.reads c.args.k (omega arith) in
    ap (λ ds. slice_get ds c.args.k) (sym c.self.view_is) ∙ r.1 ∙ ap Some (ok_same r.2 (sym c.read_at.ensures ∙ c.unwrap.ensures))
