use Rattle.std.proofs.Common.{length, refl, ap, ◌∙◌, arith}
use Rattle.std.proofs.lemmas.Bool.{both_ways}
use Rattle.ledger.proofs.Reading.{some_same}
use Rattle.memory.specs.Buckets.{bucket}
use Rattle.receiving.proofs.Buckets.{search_begins, search_next}
use Rattle.receiving.proofs.records.Records.seen_before.Goals as goal

pub loop-j-init : goal.loop-j-init
loop-j-init g c = (
  let m = c.min-link.ensures in omega arith,
  λ T.
      search_begins g.S.Symbol.scatter c.args.self.now (length c.args.self.now) c.args.k c.args.vertex c.args.work.now c.bucket.result _ c.min-link.result T
      (c.bucket.ensures.value ∙ ap (λ n. bucket g.S.Symbol.scatter n c.args.vertex) c.count.ensures.value) (omega (arith, c.bucket.ensures.within, c.count.ensures.value)) refl c.min-link.ensures,
)

pub loop-j-preserved : goal.loop-j-preserved
loop-j-preserved g c = (
  let m = c.min-link-in-Some.ensures in omega arith,
  λ T.
      search_next g.S.Symbol.scatter c.args.self.now (length c.args.self.now) c.args.k c.args.vertex c.args.work.now c.loop-j.link c.in-Some.j _ c.min-link-in-Some.result (let s = c.in-Some.ensures in omega arith) T (c.loop-j.invariant.1 T) c.loop-j.invariant.0
      (λ p. both_ways _ c.if-same_vertex.false (c.same_vertex.ensures.1 (some_same c.record.ensures.value p))) refl c.min-link-in-Some.ensures,
)
