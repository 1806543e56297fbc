use Rattle.ledger.specs.Diagrams.{Good, Sound}
use Rattle.counting.specs.Tallies.{Tallied}
use Rattle.counting.proofs.tallying.tally_up_to.Given as goal

abbrev pub invariant-loop-n : goal.invariant-loop-n
invariant-loop-n g l =
    Sound g.S.Symbol.before (g.B.Shelf.vertices l.shelf) → Good (g.B.Shelf.vertices l.shelf) l.list →
    Tallied (g.B.Shelf.vertices l.shelf) l.n l.work
