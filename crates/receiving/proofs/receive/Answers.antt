use Rattle.std.proofs.Common.{sym, ap, ◌∙◌, arith}
use mathlib.Core.Path.{subst⁻¹}
use Rattle.ledger.specs.Ledger.{codes}
use Rattle.receiving.specs.Checks.{head_checked}
use Rattle.receiving.specs.Receives.{ByHead, ByRecords, InOrder, AsWritten}
use Rattle.receiving.proofs.Accepting.{read_right}
use Rattle.receiving.proofs.Dispatched.{head_right, head_few, as_written, ends_by}
use Rattle.receiving.proofs.receive.Goals as goal

pub lay_checked-requires : goal.lay_checked-requires
lay_checked-requires g c =
    let w = g.S.WireSymbol.travel in
    let h = c.in_ok-head.head in
    let rest = c.in_ok-head.rest.now in
    let H = head_right w.kind w.width c.capacity.result c.args.bytes.now h rest (sym c.in_ok-head.ensures) in
    let f = head_few w.kind w.width c.capacity.result c.args.bytes.now h rest H in
    let few = f.0 in
    let many = (read_right g.S.Symbol.before g.met.S.Symbol.ordered w rest h.count c.in_ok-records.records (sym c.in_ok-records.ensures) f.1).2 in
    let e = c.capacity.ensures in
    omega arith

pub returns-clause-answer : goal.returns-clause-answer
returns-clause-answer g c = λ ready sound.
    let w = g.S.WireSymbol.travel in
    let bs = c.args.bytes.now in
    let h = c.in_ok-head.head in
    let rest = c.in_ok-head.rest.now in
    let ds = c.in_ok-records.records in
    let capacity = g.B.Shelf.capacity c.args.shelf.now in
    let H = head_right w.kind w.width c.capacity.result bs h rest (sym c.in_ok-head.ensures) in
    let f = head_few w.kind w.width c.capacity.result bs h rest H in
    let few = f.0 in
    let r = read_right g.S.Symbol.before g.met.S.Symbol.ordered w rest h.count ds (sym c.in_ok-records.ensures) f.1 in
    let many = r.2 in
    let e = c.capacity.ensures in
    let b = (g.B.Shelf.bounds c.args.shelf.now).1 in
    let right = as_written w g.met.S.WireSymbol.wired c.capacity.result bs (λ i. (c.type_inv.bytes i).fits) h rest H ds r.0 many g.S.Symbol.before g.met.S.Symbol.ordered r.1 (omega arith) in
    subst⁻¹ (λ x. ByHead g.S.Symbol.before w capacity (g.B.Shelf.vertices c.args.shelf.now) bs x c.lay_checked.result (g.B.Shelf.vertices c.lay_checked.new.shelf))
    (ap (λ n. head_checked w.kind w.width n bs) (sym e) ∙ sym c.in_ok-head.ensures)
    (subst⁻¹ (λ y. ByRecords g.S.Symbol.before w capacity (g.B.Shelf.vertices c.args.shelf.now) bs h.root y c.lay_checked.result (g.B.Shelf.vertices c.lay_checked.new.shelf)) (sym c.in_ok-records.ensures)
    (ends_by g.S.Symbol.before capacity (g.B.Shelf.vertices c.args.shelf.now) (InOrder g.S.Symbol.before ds h.root) (AsWritten g.S.Symbol.before w bs ds h.root) (codes ds h.root)
    c.lay_checked.result (g.B.Shelf.vertices c.lay_checked.new.shelf) right (c.lay_checked.ensures.answer ready sound)))
