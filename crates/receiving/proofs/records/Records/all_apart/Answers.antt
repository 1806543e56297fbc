use Rattle.std.proofs.Common.{length, length-take-le, refl, ap, ◌∙◌, arith}
use Rattle.std.proofs.lemmas.Bool.{false≢true, both_ways}
use Rattle.std.proofs.lemmas.List.{get_or_append_left}
use Rattle.memory.specs.declared.work.Place.{Place}
use Rattle.receiving.specs.Walks.{vacant}
use Rattle.memory.specs.Buckets.{bucket}
use Rattle.receiving.proofs.Buckets.{table_none, table_more, apart_none, apart_more, different_all, not_different}
use Rattle.receiving.proofs.records.Records.all_apart.Goals as goal

pub loop-k-init : goal.loop-k-init
loop-k-init g c = (
  table_none g.S.Symbol.scatter c.args.self.now (length c.args.self.now) _ (λ b h.
      let l = length-take-le c.count-count.result c.args.work.now (omega (arith, c.count-count.ensures.value)) in
      let n = c.fill.ensures.len in
      ap (λ (p : Place). p.list) (get_or_append_left c.fill.new.self _ vacant b (omega (arith, c.count-count.ensures.value)) ∙ c.fill.ensures.clones b vacant (omega (arith, c.count-count.ensures.value)) refl) ∙ c.default.ensures.1.0),
  apart_none c.args.self.now,
)

pub returns-then-seen_before : goal.returns-then-seen_before
returns-then-seen_before g c = (
  λ e. absurd (false≢true e),
  λ d. absurd (not_different c.args.self.now c.loop-k.k c.record-vertex.result c.record-vertex.ensures.value ((c.seen_before.ensures c.loop-k.invariant.0).0 c.if-seen_before.true) d),
)

pub loop-k-preserved : goal.loop-k-preserved
loop-k-preserved g c =
    let at = c.record-vertex.ensures.value in (
      table_more g.S.Symbol.scatter c.args.self.now (length c.args.self.now) c.loop-k.k c.bucket.result c.record-vertex.result c.loop-k.work _ at
          (c.bucket.ensures.value ∙ ap (λ n. bucket g.S.Symbol.scatter n c.record-vertex.result) c.count-count.ensures.value) (omega (arith, c.bucket.ensures.within, c.count-count.ensures.value)) c.loop-k.invariant.0 c.put_in_front.ensures,
      apart_more c.args.self.now c.loop-k.k c.record-vertex.result at (λ s. both_ways _ c.if-seen_before.false ((c.seen_before.ensures c.loop-k.invariant.0).1 s)) c.loop-k.invariant.1,
    )

pub returns : goal.returns
returns g c = (λ e. different_all c.args.self.now c.loop-k.k (omega arith) c.loop-k.invariant.1, λ d. refl)
