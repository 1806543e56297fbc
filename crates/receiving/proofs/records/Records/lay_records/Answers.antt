use Rattle.std.proofs.Common.{ℕ, Err, refl, ◌∙◌, subst, arith}
use Rattle.std.proofs.lemmas.Result.{err_from_is_err_and}
use Rattle.memory.specs.Marks.{noted_vertex}
use Rattle.memory.specs.Shelves.{FoundOrAppended}
use Rattle.receiving.proofs.Downward.{laying_none, laying_more, laying_full, laying_all}
use Rattle.receiving.proofs.records.Records.lay_records.Goals as goal

pub loop-k-init : goal.loop-k-init
loop-k-init g c = (λ r. r, refl, λ ready s. laying_none g.S.Symbol.before g.met.S.Symbol.ordered c.args.self.now (g.B.Shelf.vertices c.args.shelf.now) c.count-k-end.ensures.formed s c.args.work.now)

pub returns-in_err-number-clause-answer : goal.returns-in_err-number-clause-answer
returns-in_err-number-clause-answer g c = λ ready good w s.
    let p = err_from_is_err_and c.from_residual.result c.from_residual.ensures.1 in
    rw p.1
    (laying_full g.S.Symbol.before g.met.S.Symbol.ordered c.args.self.now (g.B.Shelf.vertices c.args.shelf.now) c.count-k-end.ensures.formed s c.loop-k.k (g.B.Shelf.vertices c.loop-k.shelf) c.loop-k.work (c.loop-k.invariant.2 ready s) c.record.result
    c.record.ensures.value (omega arith) (g.B.Shelf.capacity c.args.shelf.now) c.args.root _ c.in_err-number.field-0.0 good w
    (subst (λ (n : ℕ). FoundOrAppended n (g.B.Shelf.vertices c.loop-k.shelf) (noted_vertex c.loop-k.work c.record.result) (Err c.in_err-number.field-0.0) (g.B.Shelf.vertices c.lay_vertex.new.shelf)) c.loop-k.invariant.1 (c.in_err-number.ensures.answer (c.loop-k.invariant.0 ready))))

pub loop-k-preserved : goal.loop-k-preserved
loop-k-preserved g c = (
  λ r. c.lay_vertex.ensures.ready (c.loop-k.invariant.0 r),
  c.lay_vertex.ensures.size ∙ c.loop-k.invariant.1,
  λ ready s.
      laying_more g.S.Symbol.before g.met.S.Symbol.ordered c.args.self.now (g.B.Shelf.vertices c.args.shelf.now) c.count-k-end.ensures.formed s c.loop-k.k (g.B.Shelf.vertices c.loop-k.shelf) c.loop-k.work (c.loop-k.invariant.2 ready s) c.record.result
      c.record.ensures.value (omega arith) _ c.in_ok-number.number _ _ (omega arith) refl (c.in_ok-number.ensures.answer (c.loop-k.invariant.0 ready)),
)

pub returns-clause-answer : goal.returns-clause-answer
returns-clause-answer g c = λ ready good w s.
    laying_all g.S.Symbol.before g.met.S.Symbol.ordered c.args.self.now (g.B.Shelf.vertices c.args.shelf.now) c.count-k-end.ensures.formed s c.args.root c.loop-k.k _ (g.B.Shelf.vertices c.loop-k.shelf) c.loop-k.work (omega (arith, c.count-k-end.ensures.value)) good w
    (c.loop-k.invariant.2 ready s) c.new_link.ensures.noted
