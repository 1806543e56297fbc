use Rattle.std.proofs.Common.{◌≡◌, ◌-◌, min, length, take, arith}
use mathlib.Core.Path.{subst⁻¹}
use Rattle.std.proofs.lemmas.List.{length-take-le}
use Rattle.ledger.specs.Diagrams.{Counts, Reached}
use Rattle.counting.proofs.Marked.{marks_count}
use Rattle.counting.proofs.marking.vertices.Goals as goal

pub returns : goal.returns
returns g c = λ formed.
    let vs = g.B.Shelf.vertices c.args.shelf.now in
    let m = length (take c.min-places.result c.args.work.now) in
    let there : m ≡ min (c.args.list - 1) (length vs) =
    omega (arith, length-take-le c.min-places.result c.args.work.now (omega arith)) in
    subst⁻¹ (Counts (Reached vs c.args.list)) c.mark_reached.ensures.count
    (marks_count g.S.Symbol.before vs formed m (omega (arith, there)) c.args.list there c.mark_reached.new.marks (c.mark_reached.ensures.reached formed).1)
