use Rattle.std.proofs.Common.{rules}
use Rattle.memory.proofs.Marking.{marked_if}
use Rattle.memory.proofs.marks.is_marked.Goals as goal

pub returns-else-n-lt2 : goal.returns-else-n-lt2
returns-else-n-lt2 c = marked_if c.args.marks.now c.args.n c.get.result c.is_some_and.result c.if-n-lt2.false c.get.ensures.lookup.1 c.get.ensures.lookup.3 c.is_some_and.ensures (λ p k. search rules)
