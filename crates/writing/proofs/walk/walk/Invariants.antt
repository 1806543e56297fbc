use Rattle.std.proofs.Common.{◌≡◌, ◌≤◌, [], length}
use Rattle.ledger.specs.Diagrams.{Sound}
use Rattle.ledger.specs.Ledger.{codes, lay}
use Rattle.writing.specs.Walks.{waiting, Walking, target, left}
use Rattle.writing.proofs.walk.walk.Given as goal

abbrev pub invariant-loop-last : goal.invariant-loop-last
invariant-loop-last g l =
    (length l.seen ≤ l.stack.room) × Walking l.seen (waiting l.stack.frames) l.met ×
    (Sound g.S.Symbol.before (g.B.Shelf.vertices l.shelf) →
    target g.S.Symbol.before (g.B.Shelf.vertices l.shelf) l.seen (waiting l.stack.frames) l.met ≡ lay g.S.Symbol.before [] (codes (g.B.Shelf.vertices l.shelf) l.list))

abbrev pub decreases-loop-last : goal.decreases-loop-last
decreases-loop-last g l = left l.seen (waiting l.stack.frames) l.met
