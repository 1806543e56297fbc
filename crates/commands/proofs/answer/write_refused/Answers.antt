use Rattle.std.proofs.Common.{List, ℕ, subst, ◌∙◌}
use Rattle.texts.specs.Texts.{WrittenTo}
use Rattle.commands.specs.Answers.{ended}
use Rattle.commands.proofs.Spelling.{refused_front}
use Rattle.commands.proofs.answer.write_refused.Goals as goal

pub returns : goal.returns
returns c =
    let P : List ℕ → Type 0 = λ s. WrittenTo (ended s) c.args.out.now c.write_line.result c.write_line.new.out in
    subst P (refused_front c.args.number c.as_bytes-digits.result.now _ _ c.copy_from_slice.ensures.after (c.as_bytes-digits.ensures.value ∙ c.format.ensures.text)) c.write_line.ensures
