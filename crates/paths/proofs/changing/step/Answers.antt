use Rattle.std.proofs.Common.{sym}
use Rattle.paths.proofs.Descending.{step_end, step_new_end, step_zero_end, step_zero, step_new, step_one}
use Rattle.paths.proofs.changing.step.Goals as goal

pub returns-in_err-get : goal.returns-in_err-get
returns-in_err-get g c =
    rw c.from_residual.ensures
    (step_end g.S.Symbol.before g.met.S.Symbol.ordered _ _ _ _ c.in_default.ensures.value c.in_err-get.ensures.lookup.3)

pub returns-in_default : goal.returns-in_default
returns-in_default g c = step_new_end g.S.Symbol.before g.met.S.Symbol.ordered _ _ _ _ c.in_default.ensures.value c.in_ok-get.field-0.now c.in_ok-get.ensures.lookup.3.0 c.in_ok-get.ensures.lookup.1

pub returns-in-None : goal.returns-in-None
returns-in-None g c =
    step_zero_end g.S.Symbol.before g.met.S.Symbol.ordered _ _ _ _ _ _ _ c.in-Some.ensures.below c.in-Some.ensures.value c.requires (rw c.in-None.is at c.get-2.ensures.lookup.3)

pub returns-in-Some-get : goal.returns-in-Some-get
returns-in-Some-get g c =
    step_zero g.S.Symbol.before g.met.S.Symbol.ordered _ _ _ _ _ _ _ c.in-Some.ensures.below c.in-Some.ensures.value c.in-Some-get.symbol.now c.in-Some-get.ensures.lookup.3.0 c.in-Some-get.ensures.lookup.1
    (sym c.if-before.ensures)

pub returns-in-Some-2 : goal.returns-in-Some-2
returns-in-Some-2 g c =
    step_new g.S.Symbol.before g.met.S.Symbol.ordered _ _ _ _ _ _ _ c.in-Some.ensures.below c.in-Some.ensures.value c.in-Some-get.symbol.now c.in-Some-get.ensures.lookup.3.0 c.in-Some-get.ensures.lookup.1
    (sym c.if-before-2.ensures)

pub returns-in-Some-3 : goal.returns-in-Some-3
returns-in-Some-3 g c =
    step_one g.S.Symbol.before g.met.S.Symbol.ordered _ _ _ _ _ _ _ c.in-Some.ensures.below c.in-Some.ensures.value c.in-Some-get.symbol.now c.in-Some-get.ensures.lookup.3.0 c.in-Some-get.ensures.lookup.1
    (sym c.if-before.ensures) (sym c.if-before-2.ensures)
