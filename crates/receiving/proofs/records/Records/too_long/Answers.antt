use Rattle.std.proofs.Common.{◌≡◌, min, ◌∙◌, arith}
use Rattle.std.proofs.lemmas.Bool.{ltb-true, lt-ltb}
use Rattle.ledger.specs.Ledger.{codes}
use Rattle.ledger.proofs.Forming.{formed_proper}
use Rattle.receiving.specs.Lengths.{longest}
use Rattle.receiving.proofs.Lengthy.{held, long_is}
use Rattle.receiving.proofs.records.Records.too_long.Goals as goal

pub returns : goal.returns
returns g c =
    let ds = c.args.self.now in
    let e : c.length_at.result ≡ min (longest (codes ds c.args.root)) 65 = c.length_at.ensures ∙ held ds c.loop-k.k c.args.root c.loop-k.work c.loop-k.invariant (omega arith) in
    let i = long_is g.S.Symbol.before (codes ds c.args.root) (formed_proper g.S.Symbol.before g.met.S.Symbol.ordered ds c.count-k-end.ensures.formed c.args.root (omega arith)) in (
      λ t. i.0 (let h = ltb-true 64 c.length_at.result t in omega arith),
      λ r. lt-ltb 64 c.length_at.result (let h = i.1 r in omega arith),
    )
