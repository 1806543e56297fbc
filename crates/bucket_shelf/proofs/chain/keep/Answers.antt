use Rattle.std.proofs.Common.{◌≡◌, ◌+◌, ◌<◌, false, List, map, length, get_or, take, set, sym, ap, ◌∙◌, subst, replicate, rules, arith}
use Rattle.std.proofs.lemmas.List.{length-map}
use Rattle.ledger.specs.declared.Vertex.{Vertex}
use Rattle.ledger.specs.Gather.{keep}
use Rattle.memory.specs.Marks.{noted_vertex}
use Rattle.memory.specs.Shelves.{is_mark, marks_in}
use Rattle.memory.proofs.Gathers.{mark_here}
use Rattle.memory.proofs.Keeping.{Keeps, keeps_none, keeps_no, keeps_yes, keeps_all}
use Rattle.bucket_shelf.specs.Chains.{vertices_in, room_records}
use Rattle.bucket_shelf.proofs.Indices.{length_vertices, get_or_vertices}
use Rattle.bucket_shelf.proofs.Chaining.{chained_zeros}
use Rattle.bucket_shelf.proofs.chain.keep.Goals as goal
use Rattle.bucket_shelf.proofs.chain.keep.Goals.{then-is_marked, else-is_marked}

pub loop-i-init : goal.loop-i-init
loop-i-init g c =
    let empty : c.fill.new.self ≡ replicate (length c.args.heads.now) 0 = c.fill.ensures.after (search rules) in (
      keeps_none (noted_vertex c.args.marks.now) (marks_in c.args.marks.now) (vertices_in c.args.records.now),
      rw empty (chained_zeros g.S.Symbol.scatter c.args.records.now (length c.args.heads.now)),
    )

pub loop-i-preserved : goal.loop-i-preserved
loop-i-preserved g c =
    let ps = c.args.marks.now in
    let ms = marks_in c.args.marks.now in
    let f = noted_vertex {S = g.row.S.Denot} c.args.marks.now in
    let xs = vertices_in c.args.records.now in
    let es = c.loop-i.records in
    let to = c.loop-i.to in
    let i = c.loop-i.i in
    let in_marks : i < length ms = omega (arith, length-map ps is_mark) in
    let in_records : i < length xs = omega (arith, length_vertices c.args.records.now, room_records c.args.records.now c.args.heads.now) in
    let marked : get_or ms i false ≡ c.is_marked.result = mark_here ms i c.is_marked.result c.is_marked.ensures in
    elim c.if-is_marked.branch [
      | then-is_marked w ↦
          let e = w.index-records-i.result in
          let P : List (Vertex g.row.S.Denot) → Type 0 = λ ys. Keeps f ms xs ys (to + 1) (i + 1) in
          let kept : w.new_vertex-kept.result ≡ f e.vertex = cc in
          let there = get_or_vertices es i e (omega (arith, length_vertices c.args.records.now)) w.index-records-i.is in
          rw (w.records-is, w.to-is, w.heads-is) (
            subst P (sym (w.link.ensures.vertices ∙ ap (set (vertices_in es) to) kept))
                (keeps_yes f ms xs (vertices_in es) to i e.vertex in_marks in_records (marked ∙ w.if-is_marked.true) there c.loop-i.invariant.0),
            w.link.ensures.ready c.loop-i.invariant.1,
          )
      | else-is_marked w ↦
          rw (w.records-is, w.to-is, w.heads-is) (
            keeps_no f ms xs (vertices_in es) to i in_marks in_records (marked ∙ w.if-is_marked.false) c.loop-i.invariant.0,
            c.loop-i.invariant.1,
          )
    ]

pub returns : goal.returns
returns g c =
    let ms = marks_in c.args.marks.now in
    let f = noted_vertex {S = g.row.S.Denot} c.args.marks.now in
    let xs = vertices_in c.args.records.now in
    let all : c.loop-i.i ≡ c.args.used = omega arith in
    record {
      few = omega (arith, c.loop-i.invariant.0.behind);
      vertices =
          keeps_all f ms xs (vertices_in c.loop-i.records) c.loop-i.to c.loop-i.i (omega (arith, length-map c.args.marks.now is_mark)) c.loop-i.invariant.0 ∙
          ap (λ n. map f (keep ms (take n xs))) all;
      ready = c.loop-i.invariant.1;
    }
