use Rattle.std.proofs.Common.{Result, sym, subst}
use mathlib.Core.Path.{subst⁻¹}
use Rattle.std.proofs.lemmas.Result.{err_from_is_err_and}
use Rattle.memory.specs.declared.recall.Question.{Question}
use Rattle.memory.specs.declared.shelf.Full.{Full}
use Rattle.memory.specs.Tables.{Told}
use Rattle.joining.specs.Rules.{number_of}
use Rattle.joining.specs.Frames.{waiting}
use Rattle.joining.specs.Walks.{Leads}
use Rattle.joining.specs.declared.turns.Turn.{Turn}
use Rattle.joining.proofs.Weights.{nearer_inner}
use Rattle.joining.proofs.Stacks.{put_on}
use Rattle.joining.proofs.Turning.{turn_inner, turn_full, turn_couple}
use Rattle.joining.proofs.turns.Walk.answer.Goals as goal

pub returns-in_err-number-in-Some-outer-clause-turns : goal.returns-in_err-number-in-Some-outer-clause-turns
returns-in_err-number-in-Some-outer-clause-turns g c ready old goal R =
    let p = err_from_is_err_and c.from_residual.result c.from_residual.ensures.1 in
    subst⁻¹ (λ (r : Result Turn Full). Leads g.S.Symbol.before old (number_of c.args.self.now.rule) goal (g.B.Shelf.capacity c.args.self.now.shelf.now) (g.B.Shelf.vertices c.couple.new.shelf) (g.R.RecallTable.table c.args.self.now.recall.now) (waiting c.args.self.now.stack) r) p.1
    (turn_full g.S.Symbol.before g.met.S.Symbol.ordered old (number_of c.args.self.now.rule) goal _ _ (waiting c.args.self.now.stack) c.args.n c.args.frame R
    c.in-Some.split (sym (c.in-Some.ensures.value R.sound.formed)) c.in-Some-outer.zero (g.B.Shelf.capacity c.args.self.now.shelf.now) c.in-Some-outer.is (g.B.Shelf.vertices c.couple.new.shelf)
    _ (c.in_err-number-in-Some-outer.ensures.answer ready))

pub returns-in-None-clause-nearer : goal.returns-in-None-clause-nearer
returns-in-None-clause-nearer g c =
    nearer_inner _ (waiting c.args.self.now.stack) c.args.frame c.args.n c.requires c.in-Some.split.inner c.in-None.is c.in-Some.ensures.below.1 _ _ c.push.ensures.room
    (put_on c.args.self.now.stack c.from.result _ c.push.new.self c.push.ensures.frames c.from.ensures)

pub returns-in-None-clause-turns : goal.returns-in-None-clause-turns
returns-in-None-clause-turns g c ready old goal R =
    turn_inner g.S.Symbol.before g.met.S.Symbol.ordered old (number_of c.args.self.now.rule) goal _ _ (waiting c.args.self.now.stack) c.args.n c.args.frame R
    c.in-Some.split (sym (c.in-Some.ensures.value R.sound.formed)) c.in-None.is _
    (put_on c.args.self.now.stack c.from.result _ c.push.new.self c.push.ensures.frames c.from.ensures)

pub returns-in_ok-number-in-Some-outer-clause-turns : goal.returns-in_ok-number-in-Some-outer-clause-turns
returns-in_ok-number-in-Some-outer-clause-turns g c ready old goal R =
    turn_couple g.S.Symbol.before g.met.S.Symbol.ordered old (number_of c.args.self.now.rule) goal _ _ (waiting c.args.self.now.stack) c.args.n c.args.frame R
    c.in-Some.split (sym (c.in-Some.ensures.value R.sound.formed)) c.in-Some-outer.zero (g.B.Shelf.capacity c.args.self.now.shelf.now) c.in-Some-outer.is (g.B.Shelf.vertices c.couple.new.shelf)
    c.in_ok-number-in-Some-outer.number (g.R.RecallTable.table c.tell.new.self) (c.in_ok-number-in-Some-outer.ensures.answer ready)
    (subst (λ (q : Question). Told (g.R.RecallTable.table c.args.self.now.recall.now) q c.in_ok-number-in-Some-outer.number (g.R.RecallTable.table c.tell.new.self)) c.question.ensures c.tell.ensures)
