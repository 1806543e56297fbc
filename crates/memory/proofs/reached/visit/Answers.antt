use Rattle.std.proofs.Common.{◌≡◌, ℕ, ap, ◌∙◌, ap₂, inl}
use Rattle.memory.specs.Shelves.{marks_in}
use Rattle.memory.specs.Spreading.{with_mark}
use Rattle.memory.proofs.Looks.{looked}
use Rattle.memory.proofs.reached.visit.Goals as goal

pub returns-in-Some-clause-spreads : goal.returns-in-Some-clause-spreads
returns-in-Some-clause-spreads g c = λ formed.
    let l = looked (g.B.Shelf.vertices c.args.shelf.now) c.args.n _ (c.in-Some.ensures.value formed) in
    let zero_is : c.in-Some.zero ≡ l.0.zero = ap (λ (t : g.row.S.Denot × ℕ × ℕ). t.1) l.2 in
    let one_is : c.in-Some.one ≡ l.0.one = ap (λ (t : g.row.S.Denot × ℕ × ℕ). t.2) l.2 in
    inl (
      c.is_marked.ensures.0 c.if-not-is_marked.false,
      (
        l.0,
        l.1,
        c.mark-in-Some.ensures ∙ ap (λ ms. with_mark ms c.in-Some.one) c.mark.ensures ∙
            ap₂ (λ z o. with_mark (with_mark (marks_in c.args.marks.now) z) o) zero_is one_is,
      ),
    )
