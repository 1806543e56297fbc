use Rattle.std.proofs.Common.{◌+◌, [], ◌∷◌, ◌++◌, set, Some, None, Ok, Err, sym, refl, ap, ◌∙◌}
use Rattle.std.proofs.lemmas.List.{length_push}
use Rattle.texts.proofs.Filling.{filled_more, begun_ok, begun_err}
use Rattle.texts.specs.declared.TextFault.TheVariants.{Unreadable}
use Rattle.steps.specs.Stages.{with_done, ended, steps_from, spelled}
use Rattle.steps.specs.declared.reading.Stage.TheVariants.{Start}
use Rattle.steps.specs.Spelling.{ok_own}
use Rattle.steps.proofs.Turns.{onto, turn_more, turn_ends, ended_none, spelled_some, kept_long, kept_filled, kept_few}
use Rattle.steps.proofs.reading.read_steps.Goals as goal

pub loop-b-preserved : goal.loop-b-preserved
loop-b-preserved c =
    let from = c.args.from.now in
    let code = c.loop-b.invariant.0 in
    let t = c.in_ok-turn.turn in
    let turn = sym (ok_own c.read_byte.result Unreadable t (sym c.in_ok-turn.ensures.value)) ∙ c.read_byte.ensures in
    let r = c.keep-count.result in
    let new = c.keep-count.new.out in (
      code ++ with_done t.done [],
      kept_long t.done c.loop-b.count r c.loop-b.out new code c.keep-count.ensures c.loop-b.invariant.1,
      kept_few c.loop-b.stage _ t c.loop-b.count r c.loop-b.b-index c.loop-b.out new turn c.keep-count.ensures c.loop-b.invariant.2,
      turn_more (steps_from Start from) from c.loop-b.stage c.loop-b.b-index code t c.loop-b-test.true c.loop-b.invariant.3 turn,
      kept_filled t.done c.loop-b.count r c.loop-b.out new code c.args.out.now c.keep-count.ensures c.loop-b.invariant.1 c.loop-b.invariant.4,
    )

pub returns-in_default-clause-answer : goal.returns-in_default-clause-answer
returns-in_default-clause-answer c =
    let from = c.args.from.now in
    let ends = turn_ends (steps_from Start from) from c.loop-b.stage c.loop-b.b-index c.loop-b.invariant.0 c.loop-b-test.false c.loop-b.invariant.3 in
    let none = ends ∙ ap (onto c.loop-b.invariant.0) (ended_none c.loop-b.stage c.in_default.not-Numbered) in
    begun_err (spelled from) Unreadable c.args.out.now c.loop-b.out (Err Unreadable) (spelled_some from None (sym c.is_empty.ensures ∙ c.if-is_empty.false) none) refl

pub returns-clause-answer : goal.returns-clause-answer
returns-clause-answer c =
    let from = c.args.from.now in
    let code = c.loop-b.invariant.0 in
    let last = c.in-Numbered.last in
    let ends = turn_ends (steps_from Start from) from c.loop-b.stage c.loop-b.b-index code c.loop-b-test.false c.loop-b.invariant.3 in
    let all = ends ∙ ap (λ stage. onto code (ended stage)) c.in-Numbered.is in
    let long = c.loop-b.invariant.1 in
    begun_ok (spelled from) (code ++ last ∷ []) c.args.out.now c.put.new.out (Ok (c.loop-b.count + 1)) (spelled_some from (Some (code ++ last ∷ [])) (sym c.is_empty.ensures ∙ c.if-is_empty.false) all) (ap (λ n. Ok n) (sym (length_push code last ∙ ap (λ n. n + 1) long)))
    (c.put.ensures ∙ (λ j. set (c.loop-b.invariant.4 j) (sym long j) last) ∙ filled_more code last c.args.out.now)
