use Rattle.std.proofs.Common.{◌≡◌, ◌≤◌, List, ◌∷◌, ◌++◌, length, drop, Ok, sym, subst, arith}
use Rattle.std.proofs.ByRecursion.{All-more}
use Rattle.std.proofs.lemmas.List.{take_all}
use Rattle.std.specs.List.{AllByRecursion}
use Rattle.steps.specs.Paths.{text_of, Short}
use Rattle.steps.specs.Stages.{spelled}
use Rattle.steps.specs.declared.Step.{Step}
use Rattle.steps.specs.Spelling.{text_back}
use Rattle.steps.proofs.Texts.{length_text, room_next, end_next, written_next, end_all, written_all}
use Rattle.steps.proofs.writing.write_steps.Goals as goal

pub write_slashed-at-requires : goal.write_slashed-at-requires
write_slashed-at-requires c =
    room_next c.in-Some.first.now c.in-Some.rest.now c.loop-step.step-index c.write_step-at.result c.loop-step.at (length c.loop-step.out) _ c.loop-step-test.true c.write_step-at.ensures.value c.loop-step.invariant.0 (let fits = c.room_after.ensures.0 (sym c.in_ok-ok_or.ensures.variant) in omega arith)

pub loop-step-preserved : goal.loop-step-preserved
loop-step-preserved c =
    let h = c.loop-step-test.true in
    let rest = c.in-Some.rest.now in
    let i = c.loop-step.step-index in
    let a = c.write_step-at.result in
    let start = c.write_step-at.new.out in
    let whole = length_text c.in-Some.first.now rest in
    let fits = c.room_after.ensures.0 (sym c.in_ok-ok_or.ensures.variant) in (
      end_next rest i a c.loop-step.at c.write_slashed-at.result _ h c.loop-step.invariant.0 c.write_slashed-at.ensures.value,
      written_next rest i a c.loop-step.at c.loop-step.out c.write_slashed-at.new.out start _ h (omega arith) c.loop-step.invariant.0 c.loop-step.invariant.1 c.write_slashed-at.ensures.after,
      All-more Short rest i _ h c.loop-step.invariant.2 c.write_slashed-at.ensures.short,
    )

pub returns : goal.returns
returns c =
    let split = c.in-Some.ensures.cases.0 in
    let first = c.in-Some.first.now in
    let rest = c.in-Some.rest.now in
    let old = c.args.out.now in
    let i = c.loop-step.step-index in
    let h = c.loop-step-test.false in
    let a = c.write_step-at.result in
    let P : List Step → Type 0 = λ code. (length (text_of code) ≤ length old) × (c.loop-step.at ≡ length (text_of code)) × (c.loop-step.out ≡ text_of code ++ drop (length (text_of code)) old) in
    let at_end : P (first ∷ rest) = (
      c.room_after.ensures.0 (sym c.in_ok-ok_or.ensures.variant),
      end_all first rest i a c.loop-step.at h c.write_step-at.ensures.value c.loop-step.invariant.0,
      written_all first rest i a c.loop-step.out c.write_step-at.new.out old h c.write_step-at.ensures.value c.loop-step.invariant.1 c.write_step-at.ensures.after,
    ) in
    let fit : AllByRecursion Short (first ∷ rest) = (c.write_step-at.ensures.short, subst (λ s. AllByRecursion Short s) (take_all i rest h) c.loop-step.invariant.2) in
    record { answer = subst P (sym split) at_end; back = subst (λ code. spelled (text_of code) ≡ Ok code) (sym split) (text_back (first ∷ rest) fit) }
