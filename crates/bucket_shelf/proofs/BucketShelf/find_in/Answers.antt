use Rattle.std.proofs.Common.{◌≡◌, ◌-◌, length, get_or, Some, ap, ◌∙◌, arith}
use Rattle.std.specs.List.{slice_get}
use Rattle.std.proofs.lemmas.Option.{slice_get-get_or}
use Rattle.std.proofs.lemmas.Bool.{both_ways}
use Rattle.memory.specs.Buckets.{bucket}
use Rattle.bucket_shelf.specs.Chains.{vertex_of, vertices_in, room_records, Top}
use Rattle.bucket_shelf.proofs.Indices.{nth_map}
use Rattle.bucket_shelf.proofs.Walking.{walk_head, walk_next, walk_yes, walk_no, walk_all}
use Rattle.bucket_shelf.proofs.BucketShelf.find_in.Goals as goal
use Rattle.bucket_shelf.proofs.BucketShelf.find_in.Goals.{then-same_vertex, else-same_vertex}

pub loop-top-init : goal.loop-top-init
loop-top-init g c =
    let s = c.args.self.now in (
      omega arith,
      λ h. walk_head g.S.Symbol.scatter s.records.now s.heads.now s.used c.args.wanted h c.args.at c.min-top.result c.requires.bucket c.requires.there c.min-top.ensures,
    )

pub loop-top-preserved : goal.loop-top-preserved
loop-top-preserved g c =
    let s = c.args.self.now in
    let es = s.records.now in
    let hs = s.heads.now in
    let u = s.used in
    let v = c.args.wanted in
    let in_bucket = bucket g.S.Symbol.scatter (length hs) in
    let vs = vertices_in es in
    let top = c.loop-top.top in
    let next = c.min-top-in-loop-top.result in
    let e = get_or es (top - 1) c.index-self-top.result in
    let there : slice_get es (top - 1) ≡ Some e = slice_get-get_or es (top - 1) c.index-self-top.result (omega (arith, s.within, room_records es hs)) in
    let seen : slice_get vs (top - 1) ≡ Some e.vertex = nth_map vertex_of es (top - 1) e there in (
      omega arith,
      λ h.
          let walk = c.loop-top.invariant.1 h in
          let below : Top in_bucket vs (top - 1) (in_bucket v) next =
          rw c.min-top-in-loop-top.ensures (walk_next g.S.Symbol.scatter es hs u v h top e c.loop-top.found (omega arith) (omega arith) there walk) in
          elim c.if-same_vertex.branch [
            | then-same_vertex w ↦
                rw w.found-is
                (walk_yes in_bucket vs u v top next (omega arith) (omega arith) (seen ∙ ap Some (c.same_vertex.ensures.0 w.if-same_vertex.true)) below)
            | else-same_vertex w ↦
                rw w.found-is
                (walk_no in_bucket vs u v e.vertex top next c.loop-top.found (omega arith) seen
                (λ q. both_ways c.same_vertex.result w.if-same_vertex.false (c.same_vertex.ensures.1 q)) below walk)
          ],
    )

pub returns : goal.returns
returns g c = λ h.
    let s = c.args.self.now in
    walk_all (bucket g.S.Symbol.scatter (length s.heads.now)) (vertices_in s.records.now) s.used c.args.wanted (bucket g.S.Symbol.scatter (length s.heads.now) c.args.wanted) c.loop-top.top c.loop-top.found (omega arith) (c.loop-top.invariant.1 h)
