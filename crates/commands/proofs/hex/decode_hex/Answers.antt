use Rattle.std.proofs.Common.{length, sym, refl, ap, ◌∙◌, arith}
use Rattle.std.proofs.lemmas.Bool.{both_ways}
use Rattle.commands.proofs.Hexes.{text_sound, text_complete, hex_once, length_hex, read_more, bytes_more, kept_more}
use Rattle.commands.proofs.hex.decode_hex.Goals as goal

pub returns-then-not-is_hex-clause-answer : goal.returns-then-not-is_hex-clause-answer
returns-then-not-is_hex-clause-answer c = ((λ h. both_ways _ (sym c.is_hex.ensures ∙ c.if-not-is_hex.true) (text_complete c.args.hex.now h)), refl)

pub returns-then-out-count-clause-answer : goal.returns-then-out-count-clause-answer
returns-then-out-count-clause-answer c = let text = text_sound c.args.hex.now (sym c.if-not-is_hex.ensures) in (text.0, text.1, (omega (arith, ap length text.1.1, length_hex text.0), refl))

pub loop-i-preserved : goal.loop-i-preserved
loop-i-preserved c = (
  read_more c.args.hex.now c.loop-i.out c.loop-i.i c.read_pair.result (omega arith) (omega arith) c.read_pair.ensures.1 c.read_pair.ensures.2 c.loop-i.invariant.0,
  bytes_more c.loop-i.out c.loop-i.i c.read_pair.result (omega arith) c.read_pair.ensures.0 c.loop-i.invariant.1,
  kept_more c.loop-i.out c.args.out.now c.loop-i.i c.read_pair.result c.loop-i.invariant.2,
)

pub returns-then-not-is_hex-clause-once : goal.returns-then-not-is_hex-clause-once
returns-then-not-is_hex-clause-once c = hex_once c.args.hex.now

pub returns-then-out-count-clause-once : goal.returns-then-out-count-clause-once
returns-then-out-count-clause-once c = hex_once c.args.hex.now

pub returns-clause-once : goal.returns-clause-once
returns-clause-once c = hex_once c.args.hex.now
