use Rattle.std.proofs.Common.{◌≡◌, ◌+◌, min, max, arith}
use Rattle.receiving.proofs.Lengthy.{measured_one}
use Rattle.receiving.proofs.records.Records.measure.Goals as goal

pub returns : goal.returns
returns g c = λ m.
    let s = c.saturating_add.ensures in
    let p = c.min.ensures in
    let q = c.max.ensures in
    let e : c.max.result ≡ max c.length_at-outer.result (min (c.length_at-inner.result + 1) 65) = omega arith in
    measured_one g.S.Symbol.before g.met.S.Symbol.ordered c.args.self.now c.record-vertex.ensures.formed c.args.k c.record-vertex.result c.args.work.now c.length_at-outer.result c.length_at-inner.result c.max.result
    c.record-vertex.ensures.value m c.length_at-outer.ensures c.length_at-inner.ensures e
