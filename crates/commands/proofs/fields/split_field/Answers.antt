use Rattle.std.proofs.Common.{sym, ap, ◌∙◌}
use Rattle.std.specs.Option.{option_map}
use Rattle.commands.specs.Reading.{texts}
use Rattle.commands.proofs.Texts.{field_by_space, cut}
use Rattle.commands.proofs.fields.split_field.Goals as goal

pub returns-in_err-end : goal.returns-in_err-end
returns-in_err-end c = ap (option_map texts) c.from_residual.ensures ∙ sym (field_by_space c.args.text.now _ c.in_err-end.ensures)

pub returns : goal.returns
returns c = cut c.args.text.now c.in_ok-end.end ∙ sym (field_by_space c.args.text.now _ c.in_ok-end.ensures)
