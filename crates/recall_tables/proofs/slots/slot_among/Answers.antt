use Rattle.recall_tables.specs.Slots.{slot_of}
use Rattle.recall_tables.proofs.Entries.{part_below}
use Rattle.recall_tables.proofs.slots.slot_among.Goals as goal

pub returns : goal.returns
unfolding slot_of
returns c =
    record {
      value = cc;
      within = rw (c.from.ensures, c.from-2.ensures) (part_below c.scatter.result c.args.count c.scatter.type_inv);
    }
