use Rattle.std.proofs.Common.{sym}
use Rattle.std.proofs.lemmas.List.{set_past}
use Rattle.texts.proofs.put.Goals as goal

pub returns-else-place-out : goal.returns-else-place-out
returns-else-place-out g c = sym (set_past c.args.out.now c.args.place c.args.symbol c.if-place-out.false)
