use Rattle.std.proofs.Common.{◌≤◌, length}
use Rattle.receiving.specs.Tables.{Table}
use Rattle.receiving.proofs.Buckets.{Searching}
use Rattle.receiving.proofs.records.Records.seen_before.Given as goal

abbrev pub invariant-loop-j : goal.invariant-loop-j
invariant-loop-j g l = (l.link ≤ l.k) × (Table g.S.Symbol.scatter l.self (length l.self) l.k l.work → Searching g.S.Symbol.scatter l.self (length l.self) l.k l.vertex l.link)

abbrev pub decreases-loop-j : goal.decreases-loop-j
decreases-loop-j g l = l.link
