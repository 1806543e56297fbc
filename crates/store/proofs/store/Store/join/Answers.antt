use Rattle.std.proofs.Common.{Ok, Err, refl, inr}
use Rattle.std.proofs.lemmas.Result.{err_from_is_err_and}
use Rattle.store.specs.declared.fault.Fault.TheVariants.{ShelfFull}
use Rattle.store.specs.State.{state}
use Rattle.store.proofs.Stepping.{joined}
use Rattle.store.proofs.store.Store.join.Goals as goal

pub invariant_of-self : goal.invariant_of-self
invariant_of-self g c travel =
    rw c.join.ensures.size
    ((joined g.S.Symbol.before g.met.S.Symbol.ordered (g.B.Shelf.capacity c.self.inside.shelf)
    (state (g.B.Shelf.vertices c.self.inside.shelf) (g.R.RecallTable.table c.self.inside.recall))
    (state (g.B.Shelf.vertices c.join.new.shelf) (g.R.RecallTable.table c.join.new.recall)) c.self.invariant c.join.ensures.ready
    c.args.rule c.args.first c.args.second c.args.work.now (Err ShelfFull)
    (rw (← c.self.view_is) at c.in_ok-check_list.ensures) (rw (← c.self.view_is) at c.in_ok-check_list-2.ensures)
    c.in_ok-rule.ensures.0 (rw (← c.self.view_is) at c.in_ok-check_work.ensures)
    (λ ready sound first second right.
    let down = (rw c.in_ok-rule.ensures.1 at c.in_err-join.ensures.answer ready) sound first second right in (refl, down.0, c.in_err-join.ensures.refused refl))).1 travel)

pub returns-in_err-join-clause-answer : goal.returns-in_err-join-clause-answer
returns-in_err-join-clause-answer g c =
    let told = err_from_is_err_and c.from_residual-in_err-join.result c.from_residual-in_err-join.ensures.1 in
    rw (told.1, told.2, ← c.self.view_is)
    (joined g.S.Symbol.before g.met.S.Symbol.ordered (g.B.Shelf.capacity c.self.inside.shelf)
    (state (g.B.Shelf.vertices c.self.inside.shelf) (g.R.RecallTable.table c.self.inside.recall))
    (state (g.B.Shelf.vertices c.join.new.shelf) (g.R.RecallTable.table c.join.new.recall)) c.self.invariant c.join.ensures.ready
    c.args.rule c.args.first c.args.second c.args.work.now (Err ShelfFull)
    (rw (← c.self.view_is) at c.in_ok-check_list.ensures) (rw (← c.self.view_is) at c.in_ok-check_list-2.ensures)
    c.in_ok-rule.ensures.0 (rw (← c.self.view_is) at c.in_ok-check_work.ensures)
    (λ ready sound first second right.
    let down = (rw c.in_ok-rule.ensures.1 at c.in_err-join.ensures.answer ready) sound first second right in (refl, down.0, c.in_err-join.ensures.refused refl))).0

pub invariant_of-self-2 : goal.invariant_of-self-2
invariant_of-self-2 g c travel =
    rw c.join.ensures.size
    ((joined g.S.Symbol.before g.met.S.Symbol.ordered (g.B.Shelf.capacity c.self.inside.shelf)
    (state (g.B.Shelf.vertices c.self.inside.shelf) (g.R.RecallTable.table c.self.inside.recall))
    (state (g.B.Shelf.vertices c.join.new.shelf) (g.R.RecallTable.table c.join.new.recall)) c.self.invariant c.join.ensures.ready
    c.args.rule c.args.first c.args.second c.args.work.now (Ok c.in_ok-join.field-0)
    (rw (← c.self.view_is) at c.in_ok-check_list.ensures) (rw (← c.self.view_is) at c.in_ok-check_list-2.ensures)
    c.in_ok-rule.ensures.0 (rw (← c.self.view_is) at c.in_ok-check_work.ensures)
    (λ ready sound first second right.
    let down = (rw c.in_ok-rule.ensures.1 at c.in_ok-join.ensures.answer ready) sound first second right in (down.0, λ q k h. inr (down.1 q k h)))).1 travel)

pub returns-clause-answer : goal.returns-clause-answer
returns-clause-answer g c =
    rw (← c.self.view_is)
    (joined g.S.Symbol.before g.met.S.Symbol.ordered (g.B.Shelf.capacity c.self.inside.shelf)
    (state (g.B.Shelf.vertices c.self.inside.shelf) (g.R.RecallTable.table c.self.inside.recall))
    (state (g.B.Shelf.vertices c.join.new.shelf) (g.R.RecallTable.table c.join.new.recall)) c.self.invariant c.join.ensures.ready
    c.args.rule c.args.first c.args.second c.args.work.now (Ok c.in_ok-join.field-0)
    (rw (← c.self.view_is) at c.in_ok-check_list.ensures) (rw (← c.self.view_is) at c.in_ok-check_list-2.ensures)
    c.in_ok-rule.ensures.0 (rw (← c.self.view_is) at c.in_ok-check_work.ensures)
    (λ ready sound first second right.
    let down = (rw c.in_ok-rule.ensures.1 at c.in_ok-join.ensures.answer ready) sound first second right in (down.0, λ q k h. inr (down.1 q k h)))).0
