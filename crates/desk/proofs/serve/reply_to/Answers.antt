use Rattle.std.proofs.Common.{ap, ◌∙◌, inl}
use Rattle.std.specs.Option.{option_map}
use Rattle.std.specs.Result.{result_ok}
use Rattle.commands.specs.Meaning.{meaning}
use Rattle.desk.proofs.serve.reply_to.Goals as goal

pub returns-clause-answer : goal.returns-clause-answer
returns-clause-answer g c wide =
    let l = meaning c.in_ok-command.command in
    let reads = ap (option_map meaning) (c.ok_or.ensures.ok_part ∙ ap result_ok c.in_ok-command.was) in
    inl (l, (c.read_command.ensures.answer l).0 reads, c.perform.ensures.answer wide)
