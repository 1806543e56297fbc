use Rattle.std.proofs.Common.{get_or, sym, ◌∙◌, arith}
use Rattle.recall_tables.proofs.Entries.{bare, filled_parts}
use Rattle.recall_tables.proofs.SlotTable.turn_for.Goals as goal

pub returns-then-was_filled-clause-within : goal.returns-then-was_filled-clause-within
returns-then-was_filled-clause-within c =
    let t = c.args.self.now in
    let turn = (get_or t.slots.now c.args.i bare).turn in
    let f = filled_parts t.slots.now t.turns turn c.args.i (sym c.was_filled.ensures ∙ c.if-was_filled.true) in
    omega (arith, f.early, f.inside)
