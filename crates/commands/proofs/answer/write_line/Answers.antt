use Rattle.std.proofs.Common.{arith}
use Rattle.std.proofs.lemmas.List.{length_push}
use Rattle.commands.specs.Answers.{ended}
use Rattle.commands.proofs.Spelling.{starts, line_copied}
use Rattle.commands.proofs.answer.write_line.Goals as goal

pub returns : goal.returns
returns c =
    let text = c.args.text.now in
    let more = length_push text 10 in
    starts (ended text) c.args.out.now _ _ (omega arith) (omega arith) (line_copied text c.args.out.now _ c.copy_from_slice.ensures.after (omega arith))
