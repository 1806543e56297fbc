use Rattle.std.proofs.Common.{◌≡◌, length}
use Rattle.ledger.specs.Lists.{Codes}
use Rattle.ledger.specs.Diagrams.{Good, Sound}
use Rattle.ledger.specs.Laid.{Laid}
use Rattle.ledger.specs.Ledger.{codes}
use Rattle.paths.specs.Waiting.{Waits, Begins}
use Rattle.paths.proofs.changing.unwind.Given as goal

abbrev pub invariant-loop-place : goal.invariant-loop-place
invariant-loop-place g l =
    (g.B.Shelf.capacity l.shelf ≡ g.B.Shelf.capacity l.initial.shelf) ×
    (g.B.Shelf.ready l.initial.shelf → g.B.Shelf.ready l.shelf) ×
    (g.B.Shelf.ready l.initial.shelf → (whole : Codes g.row.S.Denot) →
    Sound g.S.Symbol.before (g.B.Shelf.vertices l.initial.shelf) → Good (g.B.Shelf.vertices l.initial.shelf) l.end →
    Waits g.S.Symbol.before (g.B.Shelf.vertices l.initial.shelf) l.code l.initial.stack.frames (codes (g.B.Shelf.vertices l.initial.shelf) l.end) whole →
    (t : Codes g.row.S.Denot) × Laid g.S.Symbol.before (g.B.Shelf.vertices l.initial.shelf) t (g.B.Shelf.vertices l.shelf) l.number ×
    Begins (g.B.Shelf.vertices l.initial.shelf) (g.B.Shelf.vertices l.shelf) ×
    Waits g.S.Symbol.before (g.B.Shelf.vertices l.initial.shelf) l.code l.stack.frames t whole)

abbrev pub decreases-loop-place : goal.decreases-loop-place
decreases-loop-place g l = length l.stack.frames
