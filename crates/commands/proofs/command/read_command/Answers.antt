use Rattle.commands.specs.Grammar.{Says}
use Rattle.commands.proofs.Lines.{line_says, none_says}
use Rattle.commands.proofs.command.read_command.Goals as goal

pub returns : goal.returns
returns c =
    let says = line_says c.args.line.now _ c.if-line-gt-MAX_LINE.false c.read_line.ensures in
    record { answer = says; refused = none_says (Says c.args.line.now) _ says }
