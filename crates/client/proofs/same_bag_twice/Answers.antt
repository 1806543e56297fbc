use Rattle.std.proofs.Common.{ℕ, None, subst}
use Rattle.store.specs.State.{seen}
use Rattle.store.specs.Calls.{Adds}
use Rattle.store.proofs.Runs.{run_stands}
use Rattle.client.proofs.Twice.{twice}
use Rattle.client.proofs.same_bag_twice.Goals as goal

pub returns : goal.returns
returns g c =
    let before = g.S.Symbol.before in
    let table = g.R.RecallTable.table in
    let capacity = c.fit_out-store.result.capacity in
    let s = seen table c.fit_out-store.result in
    let s' = seen table c.add-first.new.self in
    let s'' = seen table c.add-second.new.self in
    let stands = run_stands before g.met.S.Symbol.ordered capacity None (c.fit_out-store.ensures.run None) in
    twice before g.met.S.Symbol.ordered capacity s s' s'' c.args.code.now c.args.work.now c.add-first.new.work
    stands.sound c.add-first.auto.work c.add-first.result c.add-second.result c.add-first.ensures.answer
    (subst (λ (n : ℕ). Adds before n s' 0 c.args.code.now c.add-first.new.work c.add-second.result s'') c.add-first.ensures.size c.add-second.ensures.answer)
