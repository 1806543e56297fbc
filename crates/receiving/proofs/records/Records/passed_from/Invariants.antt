use Rattle.std.proofs.Common.{ℕ, ◌↔◌}
use Rattle.ledger.specs.Visits.{Visits}
use Rattle.receiving.specs.Walks.{Fits, Rest, cost}
use Rattle.receiving.proofs.records.Records.passed_from.Given as goal

-- room; and the root's walk comes by so many vertices exactly if the tasks that wait do
abbrev pub invariant-loop-place : goal.invariant-loop-place
invariant-loop-place g l = Fits l.stack.room l.stack.frames × ((k : ℕ) → Visits l.self 0 l.root k ↔ Rest l.self k l.stack.frames l.passed)

abbrev pub decreases-loop-place : goal.decreases-loop-place
decreases-loop-place g l = cost l.stack.frames
