use Rattle.std.proofs.Common.{sym, ◌∙◌}
use Rattle.commands.proofs.Hexes.{text_stops, text_more, text_ends}
use Rattle.commands.proofs.hex.has_only_digits.Goals as goal

pub returns-then-not-is_digit : goal.returns-then-not-is_digit
returns-then-not-is_digit c =
    sym (text_stops c.args.text.now c.loop-b.b-index c.loop-b-test.true c.loop-b.invariant (sym c.is_digit.ensures ∙ c.if-not-is_digit.true))

pub loop-b-preserved : goal.loop-b-preserved
loop-b-preserved c =
    text_more c.args.text.now c.loop-b.b-index c.loop-b-test.true c.loop-b.invariant (sym c.is_digit.ensures ∙ c.if-not-is_digit.false)

pub returns : goal.returns
returns c = sym (text_ends c.args.text.now c.loop-b.b-index c.loop-b-test.false c.loop-b.invariant)
