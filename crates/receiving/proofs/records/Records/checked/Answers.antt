use Rattle.std.proofs.Common.{rules, Err, sym, ap, ◌∙◌, arith}
use Rattle.std.proofs.lemmas.Result.{err_from_is_err_and}
use Rattle.receiving.proofs.Checking.{reading_stop, reading_more, placed, not_placed}
use Rattle.receiving.proofs.records.Records.checked.Goals as goal

pub returns-in_err-map_err : goal.returns-in_err-map_err
returns-in_err-map_err g c =
    let p = err_from_is_err_and c.from_residual.result c.from_residual.ensures.1 in
    let q = placed c.loop-place.place-counter c.check_record.result c.map_err.result _ (λ f e p. search rules) c.map_err.ensures.cases c.in_err-map_err.field-0.0 c.in_err-map_err.was in
    p.1 ∙ ap Err (p.2 ∙ q.2) ∙
    sym (reading_stop g.S.Symbol.before g.met.S.Symbol.ordered _ c.args.bytes.now c.args.count c.loop-place.place-counter (omega arith) c.loop-place.invariant q.0 (sym q.1 ∙ c.check_record.ensures))

pub loop-place-preserved : goal.loop-place-preserved
loop-place-preserved g c =
    reading_more g.S.Symbol.before g.met.S.Symbol.ordered _ c.args.bytes.now c.args.count c.loop-place.place-counter (omega arith) c.loop-place.invariant c.in_ok-map_err.field-0
    (sym (not_placed c.loop-place.place-counter c.check_record.result c.map_err.result _ (λ f e p. search rules) c.map_err.ensures.cases c.in_ok-map_err.field-0 c.in_ok-map_err.was) ∙ c.check_record.ensures)
