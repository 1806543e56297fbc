use Rattle.std.proofs.Common.{length}
use Rattle.receiving.specs.Tables.{Table, FirstApart}
use Rattle.receiving.proofs.records.Records.all_apart.Given as goal

abbrev pub invariant-loop-k : goal.invariant-loop-k
invariant-loop-k g l = Table g.S.Symbol.scatter l.self (length l.self) l.k l.work × FirstApart l.self l.k
