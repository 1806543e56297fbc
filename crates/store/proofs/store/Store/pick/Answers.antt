use Rattle.std.proofs.Common.{None, ◌∙◌}
use Rattle.std.proofs.lemmas.Result.{err_from_is_err_and}
use Rattle.store.specs.State.{state}
use Rattle.store.proofs.Checks.{passed, good_list}
use Rattle.store.proofs.Runs.{run_stands}
use Rattle.store.proofs.Picking.{picks_ok, picks_not}
use Rattle.store.proofs.store.Store.pick.Goals as goal

pub returns : goal.returns
returns g c =
    let shelf = c.self.inside.shelf in
    let list = passed _ _ (rw (← c.self.view_is) at c.in_ok-check_list.ensures) in
    let out = passed _ _ c.in_ok-check_output.ensures in
    let work = passed _ _ (rw (← c.self.view_is) at c.in_ok-check_work.ensures) in
    let stands = run_stands g.S.Symbol.before g.met.S.Symbol.ordered _ None (c.self.invariant None).run in
    let good = good_list _ _ list.0 in
    rw (← c.self.view_is)
    (picks_ok g.S.Symbol.before (g.B.Shelf.capacity shelf)
    (state (g.B.Shelf.vertices shelf) (g.R.RecallTable.table c.self.inside.recall))
    c.args.list c.args.k c.args.out.now c.pick.new.out c.args.work.now (λ behind. list.1 _ ∙ out.1 _ ∙ work.1 behind)
    c.in_ok-pick.field-0 (stands.short _ good) (c.in_ok-pick.ensures.answer stands.sound good))

pub returns-in_err-pick : goal.returns-in_err-pick
returns-in_err-pick g c =
    let shelf = c.self.inside.shelf in
    let list = passed _ _ (rw (← c.self.view_is) at c.in_ok-check_list.ensures) in
    let out = passed _ _ c.in_ok-check_output.ensures in
    let work = passed _ _ (rw (← c.self.view_is) at c.in_ok-check_work.ensures) in
    let stands = run_stands g.S.Symbol.before g.met.S.Symbol.ordered _ None (c.self.invariant None).run in
    let e = c.in_err-pick.ensures in
    let p = err_from_is_err_and c.from_residual-in_err-pick.result c.from_residual-in_err-pick.ensures.1 in
    rw (p.1, p.2, ← c.self.view_is)
    (picks_not g.S.Symbol.before (g.B.Shelf.capacity shelf)
    (state (g.B.Shelf.vertices shelf) (g.R.RecallTable.table c.self.inside.recall))
    c.args.list c.args.k c.args.out.now c.pick.new.out c.args.work.now (λ behind. list.1 _ ∙ out.1 _ ∙ work.1 behind)
    _ e.kept (e.answer stands.sound (good_list _ _ list.0)))
