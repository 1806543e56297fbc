use Rattle.std.proofs.Common.{None, ◌∙◌}
use Rattle.std.proofs.lemmas.Result.{err_from_is_err_and}
use Rattle.store.specs.State.{state, seen}
use Rattle.store.proofs.Checks.{passed}
use Rattle.store.proofs.Keeping.{all_pass, one_refuses, passed_by, refused_by, clearing, clear_refused}
use Rattle.store.proofs.Runs.{run_stands}
use Rattle.store.proofs.store.Store.clear_out.Goals as goal

pub invariant_of-self : goal.invariant_of-self
invariant_of-self g c travel =
    let shelf = c.self.inside.shelf in
    let keep = all_pass (g.B.Shelf.vertices shelf) 0 c.args.keep.now (passed_by _ (rw (← c.self.view_is) at c.in_ok-check_keep.ensures)) in
    let work = passed _ _ (rw (← c.self.view_is) at c.in_ok-check_work.ensures) in
    let stands = run_stands g.S.Symbol.before g.met.S.Symbol.ordered _ None (c.self.invariant None).run in
    rw c.clear_out.ensures.size (clearing g.S.Symbol.before (g.B.Shelf.capacity shelf)
    (state (g.B.Shelf.vertices shelf) (g.R.RecallTable.table c.self.inside.recall))
    (state (g.B.Shelf.vertices c.clear_out.new.shelf) (g.R.RecallTable.table c.forget.new.self))
    c.args.keep.now c.clear_out.new.keep c.args.work.now c.clear_out.result (keep.0 _ ∙ work.1 None) travel _ _ (c.self.invariant travel) c.clear_out.ensures.ready
    (c.clear_out.ensures.answer stands.sound keep.1) c.clear_out.ensures.value c.forget.ensures).1

pub returns-clause-answer : goal.returns-clause-answer
returns-clause-answer g c =
    let shelf = c.self.inside.shelf in
    let keep = all_pass (g.B.Shelf.vertices shelf) 0 c.args.keep.now (passed_by _ (rw (← c.self.view_is) at c.in_ok-check_keep.ensures)) in
    let work = passed _ _ (rw (← c.self.view_is) at c.in_ok-check_work.ensures) in
    let stands = run_stands g.S.Symbol.before g.met.S.Symbol.ordered _ None (c.self.invariant None).run in
    rw (← c.self.view_is) (clearing g.S.Symbol.before (g.B.Shelf.capacity shelf)
    (state (g.B.Shelf.vertices shelf) (g.R.RecallTable.table c.self.inside.recall))
    (state (g.B.Shelf.vertices c.clear_out.new.shelf) (g.R.RecallTable.table c.forget.new.self))
    c.args.keep.now c.clear_out.new.keep c.args.work.now c.clear_out.result (keep.0 _ ∙ work.1 None) None _ _ (c.self.invariant None) c.clear_out.ensures.ready
    (c.clear_out.ensures.answer stands.sound keep.1) c.clear_out.ensures.value c.forget.ensures).0

pub returns-in_err-check_keep-clause-answer : goal.returns-in_err-check_keep-clause-answer
returns-in_err-check_keep-clause-answer g c =
    let p = err_from_is_err_and c.from_residual.result c.from_residual.ensures.1 in
    rw (p.1, p.2)
    (clear_refused g.S.Symbol.before c.args.self.now.capacity (seen g.R.RecallTable.table c.args.self.now) c.args.keep.now c.args.work.now _
    (one_refuses c.args.self.now.vertices 0 c.args.keep.now _ _ (refused_by _ _ c.in_err-check_keep.ensures)))

pub returns-in_err-check_work-clause-answer : goal.returns-in_err-check_work-clause-answer
returns-in_err-check_work-clause-answer g c =
    let p = err_from_is_err_and c.from_residual-in_err-check_work.result c.from_residual-in_err-check_work.ensures.1 in
    let keep = all_pass c.args.self.now.vertices 0 c.args.keep.now (passed_by _ c.in_ok-check_keep.ensures) in
    rw (p.1, p.2)
    (clear_refused g.S.Symbol.before c.args.self.now.capacity (seen g.R.RecallTable.table c.args.self.now) c.args.keep.now c.args.work.now _
    (keep.0 _ ∙ refused_by _ _ c.in_err-check_work.ensures))
