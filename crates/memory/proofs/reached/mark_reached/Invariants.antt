use Rattle.std.proofs.Common.{◌≡◌, ◌+◌, ◌-◌, length, take, drop}
use Rattle.ledger.specs.Diagrams.{Formed}
use Rattle.memory.specs.Shelves.{marks_in}
use Rattle.memory.specs.Spreading.{Spread}
use Rattle.memory.proofs.Tallying.{many}
use Rattle.memory.proofs.reached.mark_reached.Given as goal

abbrev pub invariant-loop-n : goal.invariant-loop-n
invariant-loop-n g l =
    (l.count ≡ many (drop (l.n - 1) (marks_in l.marks))) ×
    (Formed g.S.Symbol.before (g.B.Shelf.vertices l.shelf) →
    Spread (take (length l.fn.marks) (g.B.Shelf.vertices l.shelf)) l.lists (l.n + 1) (marks_in l.marks))
