use Rattle.std.proofs.Common.{Option, sym, ap, ◌∙◌}
use Rattle.std.proofs.lemmas.Result.{err_from_is_err_and}
use Rattle.store.specs.declared.fault.Fault.{Fault}
use Rattle.store.specs.State.{answered}
use Rattle.store.proofs.Keeping.{next_passes, next_refused, no_next}
use Rattle.store.proofs.store.Store.check_keep.Goals as goal

pub loop-place-preserved : goal.loop-place-preserved
loop-place-preserved g c =
    c.loop-place.invariant ∙ next_passes c.args.self.now.vertices c.args.keep.now c.loop-place.place c.loop-place-test.true c.in_ok-check_list.ensures

pub returns-in_err-check_list : goal.returns-in_err-check_list
returns-in_err-check_list g c =
    let told = err_from_is_err_and c.from_residual.result c.from_residual.ensures.1 in
    rw (told.1, told.2)
    (sym (ap (λ (o : Option Fault). answered o tt) (c.loop-place.invariant ∙ next_refused c.args.self.now.vertices c.args.keep.now c.loop-place.place _ c.loop-place-test.true c.in_err-check_list.ensures)))

pub returns : goal.returns
returns g c =
    sym (ap (λ (o : Option Fault). answered o tt) (c.loop-place.invariant ∙ no_next c.args.self.now.vertices c.args.keep.now c.loop-place.place c.loop-place-test.false))
