use Rattle.std.proofs.Common.{Ok, Err, refl}
use Rattle.store.specs.declared.fault.Fault.TheVariants.{ShelfFull}
use Rattle.store.specs.State.{state}
use Rattle.store.proofs.Stepping.{changing}
use Rattle.store.proofs.store.Store.change.Goals as goal

pub invariant_of-self : goal.invariant_of-self
invariant_of-self g c travel =
    rw c.alter.ensures.size
    ((changing g.S.Symbol.before g.met.S.Symbol.ordered (g.B.Shelf.capacity c.self.inside.shelf)
    (state (g.B.Shelf.vertices c.self.inside.shelf) (g.R.RecallTable.table c.self.inside.recall))
    (state (g.B.Shelf.vertices c.alter.new.shelf) (g.R.RecallTable.table c.self.inside.recall)) c.self.invariant c.alter.ensures.ready
    c.args.change c.args.list c.args.code.now c.args.work.now (Ok c.in-Ok.n)
    (rw (← c.self.view_is) at c.in_ok-check_list.ensures) c.in_ok-check_code.ensures (rw (← c.self.view_is) at c.in_ok-check_work.ensures)
    (λ ready sound good. (c.in-Ok.ensures.answer ready sound good, refl))).1 travel)

pub returns-in-Ok-clause-answer : goal.returns-in-Ok-clause-answer
returns-in-Ok-clause-answer g c =
    rw (← c.self.view_is)
    (changing g.S.Symbol.before g.met.S.Symbol.ordered (g.B.Shelf.capacity c.self.inside.shelf)
    (state (g.B.Shelf.vertices c.self.inside.shelf) (g.R.RecallTable.table c.self.inside.recall))
    (state (g.B.Shelf.vertices c.alter.new.shelf) (g.R.RecallTable.table c.self.inside.recall)) c.self.invariant c.alter.ensures.ready
    c.args.change c.args.list c.args.code.now c.args.work.now (Ok c.in-Ok.n)
    (rw (← c.self.view_is) at c.in_ok-check_list.ensures) c.in_ok-check_code.ensures (rw (← c.self.view_is) at c.in_ok-check_work.ensures)
    (λ ready sound good. (c.in-Ok.ensures.answer ready sound good, refl))).0

pub invariant_of-self-in-Err : goal.invariant_of-self-in-Err
invariant_of-self-in-Err g c travel =
    rw c.alter.ensures.size
    ((changing g.S.Symbol.before g.met.S.Symbol.ordered (g.B.Shelf.capacity c.self.inside.shelf)
    (state (g.B.Shelf.vertices c.self.inside.shelf) (g.R.RecallTable.table c.self.inside.recall))
    (state (g.B.Shelf.vertices c.alter.new.shelf) (g.R.RecallTable.table c.forget.new.self)) c.self.invariant c.alter.ensures.ready
    c.args.change c.args.list c.args.code.now c.args.work.now (Err ShelfFull)
    (rw (← c.self.view_is) at c.in_ok-check_list.ensures) c.in_ok-check_code.ensures (rw (← c.self.view_is) at c.in_ok-check_work.ensures)
    (λ ready sound good. (refl, c.in-Err.ensures.answer ready sound good, c.forget.ensures))).1 travel)

pub returns-in-Err-clause-answer : goal.returns-in-Err-clause-answer
returns-in-Err-clause-answer g c =
    rw (← c.self.view_is)
    (changing g.S.Symbol.before g.met.S.Symbol.ordered (g.B.Shelf.capacity c.self.inside.shelf)
    (state (g.B.Shelf.vertices c.self.inside.shelf) (g.R.RecallTable.table c.self.inside.recall))
    (state (g.B.Shelf.vertices c.alter.new.shelf) (g.R.RecallTable.table c.forget.new.self)) c.self.invariant c.alter.ensures.ready
    c.args.change c.args.list c.args.code.now c.args.work.now (Err ShelfFull)
    (rw (← c.self.view_is) at c.in_ok-check_list.ensures) c.in_ok-check_code.ensures (rw (← c.self.view_is) at c.in_ok-check_work.ensures)
    (λ ready sound good. (refl, c.in-Err.ensures.answer ready sound good, c.forget.ensures))).0
