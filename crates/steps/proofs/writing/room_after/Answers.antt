use Rattle.steps.proofs.Texts.{fits_no_more, no_room}
use Rattle.steps.proofs.writing.room_after.Goals as goal

pub returns-in_err-left-2 : goal.returns-in_err-left-2
returns-in_err-left-2 c =
    let rest = c.args.rest.now in
    no_room c.args.first rest c.args.room c.in_ok-left.left c.digits.result _ c.from_residual-in_err-left-2.ensures c.digits.ensures.value c.in_ok-left.ensures
    (fits_no_more rest c.loop-step.step-index c.digits-in-loop-step.result c.loop-step.left c.in_ok-left.left _ c.loop-step-test.true c.digits-in-loop-step.ensures.value c.loop-step.invariant c.in_err-left-2.ensures)
