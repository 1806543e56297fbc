use Rattle.std.proofs.Common.{None, subst}
use Rattle.store.specs.State.{Fitted, seen}
use Rattle.store.specs.Run.{Run}
use Rattle.store.proofs.Runs.{number_is_list}
use Rattle.store.proofs.store.Store.look.Goals as goal

pub returns-clause-run : goal.returns-clause-run
returns-clause-run g c travel = subst (λ (f : Fitted _ _). Run g.S.Symbol.before travel f.capacity (seen g.R.RecallTable.table f)) c.self.view_is (c.self.invariant travel).run

pub returns-clause-lists : goal.returns-clause-lists
returns-clause-lists g c =
    number_is_list g.S.Symbol.before g.met.S.Symbol.ordered c.args.self.now.capacity None (seen g.R.RecallTable.table c.args.self.now)
    (subst (λ (f : Fitted _ _). Run g.S.Symbol.before None f.capacity (seen g.R.RecallTable.table f)) c.self.view_is (c.self.invariant None).run)
