use Rattle.std.proofs.Common.{set, ◌∙◌, arith}
use Rattle.letters.proofs.Spelling.{text_back, written_more}
use Rattle.letters.proofs.write_letters.Goals as goal

pub loop-i-preserved : goal.loop-i-preserved
loop-i-preserved c =
    let i = c.loop-i.i in
    let more = written_more c.args.code.now c.args.out.now i _ c.loop-i-test.true (omega arith) in
    (λ j. set (c.loop-i.invariant j) i (c.from.ensures j)) ∙ more

pub returns-clause-back : goal.returns-clause-back
returns-clause-back c = text_back c.args.code.now
