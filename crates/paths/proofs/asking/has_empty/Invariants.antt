use Rattle.std.proofs.Common.{◌≡◌, []}
use Rattle.ledger.specs.Diagrams.{Good, Sound}
use Rattle.ledger.specs.Ledger.{codes}
use Rattle.ledger.specs.Operations.{has}
use Rattle.paths.proofs.asking.has_empty.Given as goal

abbrev pub invariant-loop-zero : goal.invariant-loop-zero
invariant-loop-zero g l =
    Sound g.S.Symbol.before (g.B.Shelf.vertices l.shelf) → Good (g.B.Shelf.vertices l.shelf) l.list →
    Good (g.B.Shelf.vertices l.shelf) l.at ×
    (has g.S.Symbol.before (codes (g.B.Shelf.vertices l.shelf) l.list) [] ≡ has g.S.Symbol.before (codes (g.B.Shelf.vertices l.shelf) l.at) [])

abbrev pub decreases-loop-zero : goal.decreases-loop-zero
decreases-loop-zero g l = l.at
