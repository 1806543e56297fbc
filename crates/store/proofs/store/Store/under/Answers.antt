use Rattle.std.proofs.Common.{None, ap, ◌∙◌}
use Rattle.ledger.specs.Diagrams.{Good}
use Rattle.store.specs.State.{Fitted}
use Rattle.store.proofs.Checks.{passed, answered_is, good_list}
use Rattle.store.proofs.Runs.{run_stands}
use Rattle.store.proofs.store.Store.under.Goals as goal

pub returns : goal.returns
returns g c =
    let e = ap (λ (f : Fitted _ _). f.vertices) c.self.view_is in
    let list = passed _ _ c.in_ok-check_list.ensures in
    let code = passed _ _ c.in_ok-check_code.ensures in
    let stands = run_stands g.S.Symbol.before g.met.S.Symbol.ordered _ None (c.self.invariant None).run in
    let good : Good (g.B.Shelf.vertices c.self.inside.shelf) c.args.list = rw e (good_list _ _ list.0) in
    answered_is _ (list.1 _ ∙ code.1 None) _ _ (rw (← e) (c.under.ensures.value stands.sound good).2)
