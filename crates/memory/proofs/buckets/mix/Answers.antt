use Rattle.memory.specs.Buckets.{mixed}
use Rattle.memory.proofs.buckets.mix.Goals as goal

pub returns : goal.returns
unfolding mixed
returns c = cc
