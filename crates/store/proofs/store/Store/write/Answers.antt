use Rattle.std.proofs.Common.{None, Ok, Err, subst, ◌∙◌}
use Rattle.std.proofs.lemmas.Result.{err_from_is_err_and}
use Rattle.store.specs.declared.fault.Fault.TheVariants.{ShortOutput}
use Rattle.store.specs.State.{Fitted, state, seen}
use Rattle.store.specs.Calls.{Writes}
use Rattle.store.proofs.Checks.{passed}
use Rattle.store.proofs.Runs.{run_stands}
use Rattle.store.proofs.Alike.{written_alike, writes_ok, writes_not}
use Rattle.store.proofs.store.Store.write.Goals as goal

pub returns-clause-answer : goal.returns-clause-answer
returns-clause-answer g c =
    let shelf = c.self.inside.shelf in
    let list = passed _ _ (rw (← c.self.view_is) at c.in_ok-check_list.ensures) in
    let work = passed _ _ (rw (← c.self.view_is) at c.in_ok-check_work.ensures) in
    let stands = run_stands g.S.Symbol.before g.met.S.Symbol.ordered _ None (c.self.invariant None).run in
    subst (λ (f : Fitted _ _). Writes g.S.Symbol.before f.capacity g.S.WireSymbol.travel (seen g.R.RecallTable.table f) c.args.list c.args.out.now c.args.work.now (Ok c.in_ok-write.field-0) c.write.new.out) c.self.view_is
    (writes_ok g.S.Symbol.before (g.B.Shelf.capacity shelf) g.S.WireSymbol.travel
    (state (g.B.Shelf.vertices shelf) (g.R.RecallTable.table c.self.inside.recall))
    c.args.list c.args.out.now c.write.new.out c.args.work.now (λ behind. list.1 _ ∙ work.1 behind) c.in_ok-write.field-0 (c.in_ok-write.ensures.answer stands.sound) c.write.auto.out)

pub returns-in_err-write-clause-answer : goal.returns-in_err-write-clause-answer
returns-in_err-write-clause-answer g c =
    let shelf = c.self.inside.shelf in
    let list = passed _ _ (rw (← c.self.view_is) at c.in_ok-check_list.ensures) in
    let work = passed _ _ (rw (← c.self.view_is) at c.in_ok-check_work.ensures) in
    let stands = run_stands g.S.Symbol.before g.met.S.Symbol.ordered _ None (c.self.invariant None).run in
    let p = err_from_is_err_and c.from_residual-in_err-write.result c.from_residual-in_err-write.ensures.1 in
    rw (p.1, p.2)
    (subst (λ (f : Fitted _ _). Writes g.S.Symbol.before f.capacity g.S.WireSymbol.travel (seen g.R.RecallTable.table f) c.args.list c.args.out.now c.args.work.now (Err ShortOutput) c.write.new.out) c.self.view_is
    (writes_not g.S.Symbol.before (g.B.Shelf.capacity shelf) g.S.WireSymbol.travel
    (state (g.B.Shelf.vertices shelf) (g.R.RecallTable.table c.self.inside.recall))
    c.args.list c.args.out.now c.write.new.out c.args.work.now (λ behind. list.1 _ ∙ work.1 behind) _ (c.in_err-write.ensures.answer stands.sound)))

pub returns-clause-alike : goal.returns-clause-alike
returns-clause-alike g c = written_alike g.S.Symbol.before g.met.S.Symbol.ordered _ g.met.S.WireSymbol.wired

pub returns-in_err-write-clause-alike : goal.returns-in_err-write-clause-alike
returns-in_err-write-clause-alike g c = written_alike g.S.Symbol.before g.met.S.Symbol.ordered _ g.met.S.WireSymbol.wired

pub returns-in_err-check_list-clause-alike : goal.returns-in_err-check_list-clause-alike
returns-in_err-check_list-clause-alike g c = written_alike g.S.Symbol.before g.met.S.Symbol.ordered _ g.met.S.WireSymbol.wired

pub returns-in_err-check_work-clause-alike : goal.returns-in_err-check_work-clause-alike
returns-in_err-check_work-clause-alike g c = written_alike g.S.Symbol.before g.met.S.Symbol.ordered _ g.met.S.WireSymbol.wired
