use Rattle.std.proofs.Common.{get_or, set, ap, ◌∙◌, arith}
use Rattle.std.proofs.lemmas.List.Edits.{map_over_more}
use Rattle.std.proofs.lemmas.List.{get_or_default}
use Rattle.memory.specs.Marks.{noted}
use Rattle.clearing.proofs.clearing.renumber_each.Goals as goal

pub loop-list-preserved : goal.loop-list-preserved
loop-list-preserved c =
    ap (set c.loop-list.lists c.loop-list.list-index) c.new_link.ensures.noted ∙
    map_over_more (noted c.args.marks.now) c.args.lists.now c.loop-list.lists c.loop-list.list-index (get_or c.loop-list.lists c.loop-list.list-index 0)
    c.loop-list-test.true c.loop-list.invariant (get_or_default c.loop-list.lists c.loop-list.list-index 0 _ (omega arith))
