use Rattle.std.proofs.Common.{◌≡◌}
use Rattle.ledger.specs.Diagrams.{Sound}
use Rattle.receiving.specs.Layings.{Laying}
use Rattle.receiving.proofs.records.Records.lay_records.Given as goal

abbrev pub invariant-loop-k : goal.invariant-loop-k
invariant-loop-k g l =
    (g.B.Shelf.ready l.initial.shelf → g.B.Shelf.ready l.shelf) × (g.B.Shelf.capacity l.shelf ≡ g.B.Shelf.capacity l.initial.shelf) ×
    (g.B.Shelf.ready l.initial.shelf → Sound g.S.Symbol.before (g.B.Shelf.vertices l.initial.shelf) → Laying g.S.Symbol.before l.self (g.B.Shelf.vertices l.initial.shelf) l.k (g.B.Shelf.vertices l.shelf) l.work)
