use Rattle.std.proofs.Common.{take}
use Rattle.paths.specs.Asked.{WhenGood, Leads}
use Rattle.paths.proofs.asking.under.Given as goal

abbrev pub invariant-loop-symbol : goal.invariant-loop-symbol
invariant-loop-symbol g l =
    WhenGood g.S.Symbol.before (g.B.Shelf.vertices l.shelf) l.list
    (λ t. Leads g.S.Symbol.before (g.B.Shelf.vertices l.shelf) t (take l.symbol-index l.code) l.reached)
