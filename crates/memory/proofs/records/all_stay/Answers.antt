use Rattle.std.proofs.Common.{◌≡◌, ◌+◌, map, Some, refl, ap, sym, ◌∙◌, arith}
use Rattle.std.proofs.lemmas.List.{length-map}
use Rattle.std.proofs.lemmas.Bool.{both_ways, false≢true}
use Rattle.memory.specs.Shelves.{marks_in}
use Rattle.memory.proofs.Gathers.{stay_none, stay_more, stay_all}
use Rattle.memory.proofs.Standing.{look_index}
use Rattle.memory.proofs.records.all_stay.Goals as goal

pub loop-i-init : goal.loop-i-init
loop-i-init g c = stay_none (marks_in c.args.marks.now) (map g.T.Record.vertex c.args.records.now)

pub returns-then-not-vertex_stays : goal.returns-then-not-vertex_stays
returns-then-not-vertex_stays g c =
    let there = look_index g.T.Record.vertex c.args.records.now c.loop-i.i c.index-records-i.result (omega arith) c.index-records-i.is ∙ ap Some (sym c.vertex.ensures) in
    (λ no. absurd (false≢true no), λ all. absurd (both_ways c.vertex_stays.result c.if-not-vertex_stays.true (c.vertex_stays.ensures.1 (all (c.loop-i.i + 2) c.vertex.result there))))

pub loop-i-preserved : goal.loop-i-preserved
loop-i-preserved g c =
    let there = look_index g.T.Record.vertex c.args.records.now c.loop-i.i c.index-records-i.result (omega arith) c.index-records-i.is ∙ ap Some (sym c.vertex.ensures) in
    let next : c.loop-i.i + 1 + 2 ≡ c.loop-i.i + 2 + 1 = omega arith in
    rw next
    (stay_more (marks_in c.args.marks.now) (map g.T.Record.vertex c.args.records.now) (c.loop-i.i + 2) c.vertex.result there (c.vertex_stays.ensures.0 c.if-not-vertex_stays.false) c.loop-i.invariant)

pub returns : goal.returns
returns g c =
    let vs = map g.T.Record.vertex c.args.records.now in
    (λ yes. stay_all (marks_in c.args.marks.now) vs (c.loop-i.i + 2) (omega (arith, length-map c.args.records.now g.T.Record.vertex)) c.loop-i.invariant, λ all. refl)
