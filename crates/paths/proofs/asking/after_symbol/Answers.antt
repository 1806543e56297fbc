use Rattle.std.proofs.Common.{sym, ◌∙◌}
use Rattle.paths.proofs.Leading.{lead_past, lead_early, lead_in, lead_out}
use Rattle.paths.proofs.asking.after_symbol.Goals as goal

pub returns-then-before : goal.returns-then-before
returns-then-before g c sound good =
    let k = c.loop-label.invariant sound good in
    let r = lead_early g.S.Symbol.before g.met.S.Symbol.ordered _ sound c.loop-label.at _ _ _ (c.in-Some.ensures.value sound.formed) c.args.symbol (sym c.if-before.ensures) in
    (r.0, r.1 ∙ sym k.1)

pub returns-then-not-before : goal.returns-then-not-before
returns-then-not-before g c sound good =
    let k = c.loop-label.invariant sound good in
    let r = lead_in g.S.Symbol.before g.met.S.Symbol.ordered _ sound c.loop-label.at _ _ _ (c.in-Some.ensures.value sound.formed) c.args.symbol (sym c.if-not-before.ensures) (sym c.if-before.ensures) in
    (r.0, r.1 ∙ sym k.1)

pub loop-label-preserved : goal.loop-label-preserved
loop-label-preserved g c sound good =
    let k = c.loop-label.invariant sound good in
    let r = lead_past g.S.Symbol.before g.met.S.Symbol.ordered _ sound c.loop-label.at _ _ _ (c.in-Some.ensures.value sound.formed) c.args.symbol (sym c.if-not-before.ensures) in
    (r.0, k.1 ∙ r.1)

pub returns : goal.returns
returns g c sound good =
    let k = c.loop-label.invariant sound good in
    let r = lead_out g.S.Symbol.before g.met.S.Symbol.ordered _ sound c.loop-label.at (c.in_default.ensures.value sound.formed) k.0 c.args.symbol in
    (r.0, r.1 ∙ sym k.1)
