use Rattle.receiving.proofs.Checking.{Reading}
use Rattle.receiving.proofs.records.Records.checked.Given as goal

abbrev pub invariant-loop-place : goal.invariant-loop-place
invariant-loop-place g l = Reading g.S.Symbol.before g.met.S.Symbol.ordered g.S.WireSymbol.travel l.bytes l.count l.place-counter
