use Rattle.std.proofs.Common.{refl}
use Rattle.store.specs.Run.{fitted_out}
use Rattle.store.proofs.Runs.{number_is_list}
use Rattle.store.proofs.store.Store.fit_out.Goals as goal

pub invariant_of-result : goal.invariant_of-result
invariant_of-result g c travel = record {
  ready = c.cut.ensures.anew refl;
  run = fitted_out (g.B.Shelf.bounds c.cut.new.self).1 c.cut.ensures.vertices c.forget.ensures;
}

pub returns-clause-run : goal.returns-clause-run
returns-clause-run g c travel = fitted_out (g.B.Shelf.bounds c.cut.new.self).1 c.cut.ensures.vertices c.forget.ensures

pub returns-clause-promise : goal.returns-clause-promise
returns-clause-promise g c = number_is_list g.S.Symbol.before g.met.S.Symbol.ordered (g.B.Shelf.capacity c.args.shelf)
