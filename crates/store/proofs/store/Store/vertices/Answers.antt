use Rattle.std.proofs.Common.{None, ap, ◌∙◌}
use Rattle.store.specs.State.{Fitted}
use Rattle.store.proofs.Checks.{passed}
use Rattle.store.proofs.Runs.{run_stands}
use Rattle.store.proofs.store.Store.vertices.Goals as goal

pub returns : goal.returns
returns g c =
    let e = ap (λ (f : Fitted _ _). f.vertices) c.self.view_is in
    let list = passed _ _ c.in_ok-check_list.ensures in
    let work = passed _ _ c.in_ok-check_work.ensures in
    let stands = run_stands g.S.Symbol.before g.met.S.Symbol.ordered _ None (c.self.invariant None).run in
    (list.1 _ ∙ work.1 None, rw (← e) (c.vertices.ensures stands.sound.formed))
