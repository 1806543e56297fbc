use Rattle.std.proofs.Common.{rules}
use Rattle.memory.proofs.Marking.{noted_if}
use Rattle.memory.proofs.marks.new_link.Goals as goal

pub returns-clause-noted : goal.returns-clause-noted
returns-clause-noted c = noted_if c.args.marks.now c.args.link c.get.result c.map_or.result c.if-link-lt2.false c.get.ensures.lookup.1 c.get.ensures.lookup.3 c.map_or.ensures (λ p k. search rules)
