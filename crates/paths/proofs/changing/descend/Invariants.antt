use Rattle.std.proofs.Common.{◌≡◌, ◌+◌, ◌-◌, ◌≤◌, length, drop}
use Rattle.ledger.specs.Diagrams.{Good, Sound}
use Rattle.ledger.specs.Ledger.{codes}
use Rattle.ledger.specs.Operations.{has}
use Rattle.paths.specs.declared.changing.Change.{Change}
use Rattle.paths.specs.Changed.{changed}
use Rattle.paths.specs.Waiting.{Waits}
use Rattle.paths.proofs.changing.descend.Given as goal

abbrev pub invariant-loop-frame : goal.invariant-loop-frame
invariant-loop-frame g l =
    (l.spot ≤ length l.code) ×
    (length l.stack.frames + l.at + length l.code ≤ l.stack.room + l.spot) ×
    (Sound g.S.Symbol.before (g.B.Shelf.vertices l.shelf) → Good (g.B.Shelf.vertices l.shelf) l.list →
    Good (g.B.Shelf.vertices l.shelf) l.at ×
    (has g.S.Symbol.before (codes (g.B.Shelf.vertices l.shelf) l.at) (drop l.spot l.code) ≡ has g.S.Symbol.before (codes (g.B.Shelf.vertices l.shelf) l.list) l.code) ×
    ((change : Change) →
    Waits g.S.Symbol.before (g.B.Shelf.vertices l.shelf) l.code l.stack.frames
    (changed g.S.Symbol.before change (codes (g.B.Shelf.vertices l.shelf) l.at) (drop l.spot l.code))
    (changed g.S.Symbol.before change (codes (g.B.Shelf.vertices l.shelf) l.list) l.code)))

abbrev pub decreases-loop-frame : goal.decreases-loop-frame
decreases-loop-frame g l = l.at + (length l.code - l.spot)
