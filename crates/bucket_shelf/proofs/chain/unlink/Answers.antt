use Rattle.std.proofs.Common.{◌≡◌, ◌+◌, ◌-◌, min, [], ◌∷◌, length, take, drop, ap, ◌∙◌, arith}
use Rattle.std.proofs.lemmas.List.{length-append, length-drop, length-take-le}
use Rattle.bucket_shelf.specs.Chains.{room_records}
use Rattle.bucket_shelf.proofs.Indices.{front_last, front_less}
use Rattle.bucket_shelf.proofs.Chaining.{chained_unlink}
use Rattle.bucket_shelf.proofs.chain.unlink.Goals as goal

pub loop-entry-init : goal.loop-entry-init
loop-entry-init g c =
    let es = c.args.records.now in
    let low = c.min.result in
    let n = c.args.used - low in
    let left = c.into_iter-entry-iterator.result.iter.rest.now in
    let is : left ≡ take n (drop low es) =
    ap (λ i. i.iter.rest.now) c.into_iter-entry-iterator.ensures.into_iter_gives ∙ ap (λ i. i.rest.now) c.rev-entry-items.ensures.source ∙ c.iter.ensures.rest in
    let many : length left ≡ n =
    ap length is ∙ length-take-le n (drop low es) (omega (arith, room_records es c.args.heads.now, length-drop low es)) in
    let all : low + length left ≡ c.args.used = omega arith in
    rw (← c.min.ensures) (omega arith, rw many is, λ h. rw all h)

pub loop-entry-preserved : goal.loop-entry-preserved
loop-entry-preserved g c =
    let es = c.args.records.now in
    let low = min c.args.n c.args.used in
    let left = c.loop-entry.entry-iterator.iter.rest.now in
    let rest = c.next.new.self.iter.rest.now in
    let e = c.in-Some.entry.now in
    let u = low + length rest in
    let more : length left ≡ length rest + 1 = ap length c.in-Some.ensures.steps ∙ length-append rest (e ∷ []) in
    let next : low + length left ≡ u + 1 = omega arith in
    let there = front_last es left rest e low c.loop-entry.invariant.1 c.in-Some.ensures.steps in (
      omega (arith, c.loop-entry.invariant.0),
      front_less es left rest e low c.loop-entry.invariant.1 c.in-Some.ensures.steps,
      λ h.
          chained_unlink g.S.Symbol.scatter es c.loop-entry.heads u c.bucket-at.result e there c.bucket-at.ensures.value c.bucket-at.ensures.within
          (rw next at (c.loop-entry.invariant.2 h)),
    )

pub returns : goal.returns
returns g c = λ h.
    let none : length c.loop-entry.entry-iterator.iter.rest.now ≡ 0 = c.in-None.ensures.steps.0 in
    let end : min c.args.n c.args.used + length c.loop-entry.entry-iterator.iter.rest.now ≡ min c.args.n c.args.used = omega arith in
    rw end at (c.loop-entry.invariant.2 h)
