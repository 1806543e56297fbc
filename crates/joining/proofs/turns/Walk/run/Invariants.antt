use Rattle.std.proofs.Common.{◌≡◌, List}
use Rattle.ledger.specs.declared.Vertex.{Vertex}
use Rattle.ledger.specs.Lists.{Codes}
use Rattle.joining.specs.Rules.{number_of}
use Rattle.joining.specs.Frames.{waiting}
use Rattle.joining.specs.Walks.{Fits, Running, cost}
use Rattle.joining.proofs.turns.Walk.run.Given as goal

-- room; what the shelf keeps; and what the walk stood for at first, it stands for still
abbrev pub invariant-loop-turn : goal.invariant-loop-turn
invariant-loop-turn g l =
    Fits l.self.stack.room (waiting l.self.stack) l.turn ×
    (l.self.rule ≡ l.initial.self.rule) ×
    (g.B.Shelf.capacity l.self.shelf.now ≡ g.B.Shelf.capacity l.initial.self.shelf.now) ×
    (g.B.Shelf.ready l.initial.self.shelf.now → g.B.Shelf.ready l.self.shelf.now) ×
    (g.B.Shelf.ready l.initial.self.shelf.now → (old : List (Vertex g.row.S.Denot)) (goal : Codes g.row.S.Denot) →
    Running g.S.Symbol.before old (number_of l.self.rule) goal (g.B.Shelf.vertices l.initial.self.shelf.now) (g.R.RecallTable.table l.initial.self.recall.now) (waiting l.initial.self.stack) l.initial.turn →
    Running g.S.Symbol.before old (number_of l.self.rule) goal (g.B.Shelf.vertices l.self.shelf.now) (g.R.RecallTable.table l.self.recall.now) (waiting l.self.stack) l.turn) ×
    (l.self.shelf.ghost_name ≡ l.initial.self.shelf.ghost_name) ×
    (l.self.recall.ghost_name ≡ l.initial.self.recall.ghost_name)

abbrev pub decreases-loop-turn : goal.decreases-loop-turn
decreases-loop-turn g l = cost (waiting l.self.stack) l.turn
