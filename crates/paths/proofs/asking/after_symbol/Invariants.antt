use Rattle.std.proofs.Common.{◌≡◌, [], ◌∷◌}
use Rattle.ledger.specs.Diagrams.{Good, Sound}
use Rattle.ledger.specs.Ledger.{codes}
use Rattle.ledger.specs.Operations.{under}
use Rattle.paths.proofs.asking.after_symbol.Given as goal

abbrev pub invariant-loop-label : goal.invariant-loop-label
invariant-loop-label g l =
    Sound g.S.Symbol.before (g.B.Shelf.vertices l.shelf) → Good (g.B.Shelf.vertices l.shelf) l.list →
    Good (g.B.Shelf.vertices l.shelf) l.at ×
    (under g.S.Symbol.before (codes (g.B.Shelf.vertices l.shelf) l.list) (l.symbol ∷ []) ≡ under g.S.Symbol.before (codes (g.B.Shelf.vertices l.shelf) l.at) (l.symbol ∷ []))

abbrev pub decreases-loop-label : goal.decreases-loop-label
decreases-loop-label g l = l.at
