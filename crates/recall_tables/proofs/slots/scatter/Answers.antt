use Rattle.recall_tables.specs.Slots.{scatter}
use Rattle.recall_tables.proofs.slots.scatter.Goals as goal

pub returns : goal.returns
unfolding scatter
returns c = cc
