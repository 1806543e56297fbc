use Rattle.std.proofs.Common.{◌≡◌, ◌+◌, ◌-◌, ◌≤◌, length, take, drop, ap, sym, ◌∙◌, subst, arith}
use mathlib.Core.Path.{subst⁻¹}
use Rattle.std.proofs.lemmas.List.{length-map, length-take-le, drop_all}
use Rattle.memory.specs.Shelves.{is_mark, marks_in}
use Rattle.memory.specs.Spreading.{Spread}
use Rattle.memory.proofs.Spreading.{unmarked_all}
use Rattle.memory.proofs.Tallying.{many, many_marks, many_more, one_if, one_byte}
use Rattle.memory.proofs.Reaching.{formed_front, visited_front, spread_start, spread_on, spread_more, spread_gatherable, spread_keeps}
use Rattle.memory.proofs.reached.mark_reached.Goals as goal

pub loop-n-init : goal.loop-n-init
loop-n-init g c =
    let m = length c.args.marks.now in
    let end = c.mark_each.new.marks in
    let past : length (marks_in end) ≤ length end + 1 - 1 = omega (arith, length-map end is_mark) in (
      sym (ap many (drop_all (length end + 1 - 1) (marks_in end) past)),
      λ formed.
          let front = take m (g.B.Shelf.vertices c.args.shelf.now) in
          let bare = c.fill.new.self in
          let long : length front ≡ m = length-take-le m (g.B.Shelf.vertices c.args.shelf.now) c.requires in
          let start =
          spread_start front c.args.lists.now (marks_in bare) (length-map bare is_mark ∙ (omega (arith, c.fill.ensures.len, long)))
          (unmarked_all bare m c.default.result (grind (arith, c.default.ensures)) (c.fill.ensures.after (λ y e. e))) in
          let e : length front + 2 ≡ length end + 1 + 1 = omega (arith, long, c.fill.ensures.len, c.mark_each.auto.marks) in
          subst (λ n. Spread front c.args.lists.now n (marks_in end)) e
          (subst⁻¹ (Spread front c.args.lists.now (length front + 2)) c.mark_each.ensures start),
    )

pub loop-n-preserved : goal.loop-n-preserved
loop-n-preserved g c =
    let m = length c.args.marks.now in
    let down : c.loop-n.n - 1 + 1 ≡ c.loop-n.n = omega (arith, c.loop-n-test.true) in
    let inside : c.loop-n.n ≤ m + 1 = omega (arith, c.loop-n.auto.n, c.mark_each.auto.marks, c.fill.ensures.len) in
    let marks = marks_in c.loop-n.marks in
    let long : length marks ≡ m = omega (arith, length-map c.loop-n.marks is_mark, c.loop-n.auto.marks, c.mark_each.auto.marks, c.fill.ensures.len) in
    let twice : c.loop-n.n - 1 - 1 ≡ c.loop-n.n - 2 = omega arith in
    let more = many_more marks c.loop-n.n c.visit.result c.loop-n-test.true (omega (arith, long, inside)) c.visit.ensures.marked in
    let here : c.from-count.result ≡ one_if c.visit.result = c.from-count.ensures ∙ one_byte c.visit.result in (
      subst⁻¹ (λ k. c.loop-n.count + c.from-count.result ≡ many (drop k (marks_in c.visit.new.marks))) twice
          (subst⁻¹ (λ ms. c.loop-n.count + c.from-count.result ≡ many ms) c.visit.ensures.above
          (omega (arith, more, here, c.loop-n.invariant.0))),
      λ formed.
          let vs = g.B.Shelf.vertices c.args.shelf.now in
          let front = take m vs in
          subst⁻¹ (λ n. Spread front c.args.lists.now n (marks_in c.visit.new.marks)) down
          (spread_more g.S.Symbol.before front (formed_front g.S.Symbol.before vs m c.requires formed) c.args.lists.now c.loop-n.n (marks_in c.loop-n.marks) (c.loop-n.invariant.1 formed)
          (marks_in c.visit.new.marks) (visited_front vs m c.loop-n.n (marks_in c.loop-n.marks) (marks_in c.visit.new.marks) inside (c.visit.ensures.spreads formed))),
    )

pub returns : goal.returns
returns g c = record {
  count =
      let end : c.loop-n.n - 1 ≡ 0 = omega (arith, c.loop-n-test.false) in
      c.loop-n.invariant.0 ∙ ap (λ k. many (drop k (marks_in c.loop-n.marks))) end ∙ sym (many_marks c.loop-n.marks);
  reached = λ formed.
      let vs = g.B.Shelf.vertices c.args.shelf.now in
      let m = length c.args.marks.now in
      let front = take m vs in
      let formed_there = formed_front g.S.Symbol.before vs m c.requires formed in
      let end = spread_on front c.args.lists.now (marks_in c.loop-n.marks) (c.loop-n.n + 1) 2 (omega (arith, c.loop-n-test.false)) (c.loop-n.invariant.1 formed) in (
        spread_gatherable g.S.Symbol.before front formed_there c.args.lists.now (marks_in c.loop-n.marks) end,
        spread_keeps g.S.Symbol.before front formed_there c.args.lists.now (marks_in c.loop-n.marks) end,
      );
}
