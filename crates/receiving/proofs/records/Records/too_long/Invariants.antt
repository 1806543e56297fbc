use Rattle.receiving.specs.Lengths.{Measured}
use Rattle.receiving.proofs.records.Records.too_long.Given as goal

abbrev pub invariant-loop-k : goal.invariant-loop-k
invariant-loop-k g l = Measured l.self l.k l.work
