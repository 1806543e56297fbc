use Rattle.std.proofs.Common.{◌≡◌, length, drop}
use Rattle.ledger.specs.Diagrams.{Formed}
use Rattle.writing.specs.Records.{Filled, start_of}
use Rattle.writing.proofs.records.write_records.Given as goal

abbrev pub invariant-loop-k : goal.invariant-loop-k
invariant-loop-k g l =
    (drop (start_of g.S.WireSymbol.travel.width l.k) l.out ≡ drop (start_of g.S.WireSymbol.travel.width l.k) l.initial.out) ×
    (Formed g.S.Symbol.before (g.B.Shelf.vertices l.shelf) → length l.seen.places.now ≡ length (g.B.Shelf.vertices l.shelf) →
    Filled (g.B.Shelf.vertices l.shelf) l.seen.places.now l.seen.met l.k g.S.WireSymbol.travel.width g.S.WireSymbol.travel.bytes l.initial.out l.out)
