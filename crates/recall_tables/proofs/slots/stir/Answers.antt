use Rattle.std.proofs.Common.{refl}
use Rattle.recall_tables.specs.Slots.{stir}
use Rattle.recall_tables.proofs.slots.stir.Goals as goal

pub returns : goal.returns
unfolding stir
returns c = refl
