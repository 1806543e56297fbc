use Rattle.std.proofs.Common.{◌+◌, ◌*◌, set, refl, ◌∙◌, arith}
use Rattle.commands.proofs.Hexes.{length_hex, write_more}
use Rattle.commands.proofs.hex.encode_hex.Goals as goal

pub returns-then-out-bytes : goal.returns-then-out-bytes
returns-then-out-bytes c = record { answer = (omega (arith, length_hex c.args.bytes.now), refl) }

pub loop-i-preserved : goal.loop-i-preserved
loop-i-preserved c =
    let more = write_more c.args.bytes.now c.args.out.now c.loop-i.i (omega arith) (omega arith) in
    (λ j. set (set (c.loop-i.invariant j) (2 * c.loop-i.i) (c.write_digit.ensures j)) (2 * c.loop-i.i + 1) (c.write_digit-in-loop-i.ensures j)) ∙ more
