use Rattle.std.proofs.Common.{None, ap, ◌∙◌, rules}
use Rattle.ledger.specs.Diagrams.{Good}
use Rattle.store.specs.State.{Fitted}
use Rattle.store.proofs.Checks.{passed, good_list, counted}
use Rattle.store.proofs.Runs.{run_stands}
use Rattle.store.proofs.store.Store.count.Goals as goal

pub returns : goal.returns
returns g c =
    let e = ap (λ (f : Fitted _ _). f.vertices) c.self.view_is in
    let list = passed _ _ c.in_ok-check_list.ensures in
    let work = passed _ _ c.in_ok-check_work.ensures in
    let stands = run_stands g.S.Symbol.before g.met.S.Symbol.ordered _ None (c.self.invariant None).run in
    let good : Good (g.B.Shelf.vertices c.self.inside.shelf) c.args.list = rw e (good_list _ _ list.0) in
    c.ok_or.ensures.value ∙ counted _ _ c.count.result _ (λ behind. list.1 _ ∙ work.1 behind) (search rules) (rw (← e) (c.count.ensures stands.sound good))
