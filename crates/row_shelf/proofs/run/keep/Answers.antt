use Rattle.std.proofs.Common.{◌≡◌, map, take, ap, ◌∙◌, arith}
use Rattle.std.proofs.lemmas.List.{length-map}
use Rattle.ledger.specs.Gather.{keep}
use Rattle.memory.specs.Marks.{noted_vertex}
use Rattle.memory.specs.Shelves.{is_mark, marks_in}
use Rattle.memory.proofs.Gathers.{mark_here}
use Rattle.memory.proofs.Keeping.{keeps_none, keeps_yes, keeps_no, keeps_all}
use Rattle.row_shelf.proofs.run.keep.Goals as goal
use Rattle.row_shelf.proofs.run.keep.Goals.{then-is_marked, else-is_marked}

pub loop-i-init : goal.loop-i-init
loop-i-init g c = keeps_none (noted_vertex c.args.marks.now) (marks_in c.args.marks.now) c.args.run.now

pub loop-i-preserved : goal.loop-i-preserved
loop-i-preserved g c =
    let marked = mark_here (marks_in c.args.marks.now) c.loop-i.i c.is_marked.result c.is_marked.ensures in
    let long = length-map c.args.marks.now is_mark in
    elim c.if-is_marked.branch [
      | then-is_marked w ↦
          rw (w.run-is, w.to-is, w.new_vertex.ensures.noted)
          (keeps_yes (noted_vertex c.args.marks.now) (marks_in c.args.marks.now) c.args.run.now c.loop-i.run c.loop-i.to c.loop-i.i w.index-run-i.result
          (omega arith) (omega arith) (marked ∙ w.if-is_marked.true) w.index-run-i.is c.loop-i.invariant)
      | else-is_marked w ↦
          rw (w.run-is, w.to-is)
          (keeps_no (noted_vertex c.args.marks.now) (marks_in c.args.marks.now) c.args.run.now c.loop-i.run c.loop-i.to c.loop-i.i
          (omega arith) (omega arith) (marked ∙ w.if-is_marked.false) c.loop-i.invariant)
    ]

pub returns : goal.returns
returns g c =
    let e : c.loop-i.i ≡ c.args.used = omega arith in
    let long = length-map c.args.marks.now is_mark in
    record {
      few = omega (arith, c.loop-i.invariant.behind);
      vertices =
          keeps_all (noted_vertex c.args.marks.now) (marks_in c.args.marks.now) c.args.run.now c.loop-i.run c.loop-i.to c.loop-i.i (omega arith) c.loop-i.invariant ∙
          ap (λ n. map (noted_vertex c.args.marks.now) (keep (marks_in c.args.marks.now) (take n c.args.run.now))) e;
    }
