use Rattle.std.proofs.Common.{sym, ◌∙◌}
use Rattle.paths.proofs.Leading.{empty_past, empty_end}
use Rattle.paths.proofs.asking.has_empty.Goals as goal

pub loop-zero-preserved : goal.loop-zero-preserved
loop-zero-preserved g c sound good =
    let k = c.loop-zero.invariant sound good in
    let r = empty_past g.S.Symbol.before g.met.S.Symbol.ordered _ sound c.loop-zero.at _ _ _ (c.in-Some.ensures.value sound.formed) in
    (r.0, k.1 ∙ r.1)

pub returns : goal.returns
returns g c sound good =
    let k = c.loop-zero.invariant sound good in
    empty_end g.S.Symbol.before g.met.S.Symbol.ordered _ sound c.loop-zero.at (c.in_default.ensures.value sound.formed) k.0 ∙ sym k.1
