use Rattle.paths.proofs.Leading.{lead_none, lead_more, led, led_number, led_member}
use Rattle.paths.proofs.asking.under.Goals as goal

pub loop-symbol-init : goal.loop-symbol-init
loop-symbol-init g c sound good = lead_none g.S.Symbol.before g.met.S.Symbol.ordered _ sound c.args.list good c.args.code.now

pub loop-symbol-preserved : goal.loop-symbol-preserved
loop-symbol-preserved g c sound good =
    let k = c.loop-symbol.invariant sound good in
    lead_more g.S.Symbol.before g.met.S.Symbol.ordered _ sound c.args.list c.args.code.now c.loop-symbol.symbol-index c.loop-symbol.reached _ c.symbol-item.result
    c.loop-symbol-test.true c.symbol-item.is k (c.after_symbol-reached.ensures sound k.0)

pub returns : goal.returns
returns g c =
    record {
      value = λ sound good. led_number g.S.Symbol.before g.met.S.Symbol.ordered _ sound c.args.list _ _ (led g.S.Symbol.before g.met.S.Symbol.ordered _ sound c.args.list _ _ _ c.loop-symbol-test.false (c.loop-symbol.invariant sound good));
      member = λ sound good. led_member g.S.Symbol.before g.met.S.Symbol.ordered _ sound c.args.list _ _ (led g.S.Symbol.before g.met.S.Symbol.ordered _ sound c.args.list _ _ _ c.loop-symbol-test.false (c.loop-symbol.invariant sound good));
    }
