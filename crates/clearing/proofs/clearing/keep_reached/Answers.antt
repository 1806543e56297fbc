use Rattle.std.proofs.Common.{◌≡◌, length, take, ◌∙◌, subst, arith}
use Rattle.std.proofs.lemmas.Bool.{cond-true}
use Rattle.std.proofs.lemmas.List.{take_all}
use Rattle.ledger.specs.Gather.{Keeps}
use Rattle.memory.specs.Shelves.{marks_in}
use Rattle.clearing.proofs.Numbers.{all_noted}
use Rattle.clearing.proofs.clearing.keep_reached.Goals as goal

pub returns-then-gather-clause-answer : goal.returns-then-gather-clause-answer
returns-then-gather-clause-answer g c = λ formed good.
    let vs = g.B.Shelf.vertices c.args.shelf.now in
    let marked = c.mark_reached.new.marks in
    let all : take (length c.args.marks.now) vs ≡ vs = take_all (length c.args.marks.now) vs (omega (arith, c.requires)) in (
      marks_in marked,
      subst (λ ws. Keeps ws c.args.keep.now (marks_in marked)) all (c.mark_reached.ensures.reached formed).1,
      c.gather.ensures.vertices ∙ cond-true c.gather.result _ _ c.if-gather.true,
      c.renumber_each.ensures ∙
          all_noted marked c.gather.new.marks c.args.keep.now c.gather.auto.marks (c.gather.ensures.numbers c.if-gather.true)
          (λ n i. omega (arith, good n i, c.requires, c.mark_reached.auto.marks)),
    )
