use Rattle.std.proofs.Common.{ℕ, ◌<◌, [], length, Result, sym, refl, subst, append-nil}
use mathlib.Core.Path.{subst⁻¹}
use Rattle.std.proofs.lemmas.Result.{err_from_is_err_and}
use Rattle.ledger.specs.Ledger.{lay, lists}
use Rattle.memory.specs.declared.shelf.Full.{Full}
use Rattle.paths.specs.declared.frames.Frame.{Frame}
use Rattle.paths.specs.Waiting.{Makes, Begins, Settled}
use Rattle.paths.proofs.Unwinding.{unwound_short}
use Rattle.ledger.proofs.Laying.{laid_known}
use Rattle.paths.proofs.changing.unwind.Goals as goal

pub loop-place-init : goal.loop-place-init
loop-place-init g c = (
  refl,
  λ ready. ready,
  λ ready whole sound good waits. (_, laid_known g.S.Symbol.before g.met.S.Symbol.ordered _ sound c.args.end good, ([], sym (append-nil _)), waits),
)

pub returns-in_err-number-clause-answer : goal.returns-in_err-number-clause-answer
returns-in_err-number-clause-answer g c ready whole sound good waits =
    let k = c.loop-place.invariant.2 ready whole sound good waits in
    let p = err_from_is_err_and c.from_residual.result c.from_residual.ensures.1 in
    subst⁻¹ (λ (r : Result ℕ Full). Settled g.S.Symbol.before (g.B.Shelf.capacity c.args.shelf.now) (g.B.Shelf.vertices c.args.shelf.now) whole r (g.B.Shelf.vertices c.resume.new.shelf)) p.1
    (unwound_short g.S.Symbol.before g.met.S.Symbol.ordered _ sound c.args.code.now c.in-Some.place _ _ c.in-Some.ensures.frames k.0 whole k.3 _ _
    (λ u makes proper.
    subst (λ (n : ℕ). (n < length (lay g.S.Symbol.before (lists (g.B.Shelf.vertices c.args.shelf.now)) u)) × Begins (g.B.Shelf.vertices c.args.shelf.now) (g.B.Shelf.vertices c.resume.new.shelf)) c.loop-place.invariant.0
    (c.in_err-number.ensures.answer (c.loop-place.invariant.1 ready) (g.B.Shelf.vertices c.args.shelf.now) k.0 u sound k.2 k.1
    (subst⁻¹ (λ (f : Frame). Makes (g.B.Shelf.vertices c.args.shelf.now) c.args.code.now f k.0 u) c.from.ensures makes) proper)))
