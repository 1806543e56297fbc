use Rattle.std.proofs.Common.{◌≡◌, ◌<◌, length, arith}
use Rattle.recall_tables.specs.Slots.{slot_of, slot_count}
use Rattle.recall_tables.proofs.Filling.{told, recalls, spares}
use Rattle.recall_tables.proofs.SlotTableRecallTable.tell.Goals as goal

pub returns : goal.returns
returns c =
    let t = c.args.self.now in
    let xs = t.slots.now in
    let i = c.in-Some.i in
    let turn = c.turn_for-turn.result in
    let here : i ≡ slot_of (slot_count xs) c.args.question = c.in-Some.ensures.0 in
    let i_in : i < length xs = c.in-Some.ensures.1 in
    let turn_in : turn < length xs = omega (arith, c.turn_for-turn.ensures.within) in
    let early = c.turn_for-turn.ensures.early in (
      told xs t.turns turn i c.args.question c.args.answer c.max-self.result here i_in turn_in early c.max-self.ensures,
      (
        recalls xs t.turns turn i c.args.question c.args.answer c.max-self.result here i_in turn_in early c.max-self.ensures,
        spares xs t.turns turn i c.args.question c.args.answer c.max-self.result here i_in turn_in early c.max-self.ensures c.turn_for-turn.ensures.spared,
      ),
    )
