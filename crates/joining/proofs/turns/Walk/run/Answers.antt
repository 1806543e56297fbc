use Rattle.std.proofs.Common.{◌≡◌, ℕ, ◌<◌, List, ◌++◌, length, map, Ok, Result, sym, ap, subst}
use mathlib.Core.Path.{subst⁻¹}
use Rattle.std.proofs.lemmas.Result.{err_from_is_err_and}
use Rattle.memory.specs.declared.shelf.Full.{Full}
use Rattle.ledger.specs.declared.Vertex.{Vertex}
use Rattle.ledger.specs.Ledger.{lay, lists}
use Rattle.joining.specs.Rules.{number_of}
use Rattle.joining.specs.Frames.{frame_of, waiting}
use Rattle.joining.specs.Pairs.{joint}
use Rattle.joining.specs.Walks.{Walked}
use Rattle.joining.specs.declared.rule.Rule.{Rule}
use Rattle.joining.proofs.Stacks.{put_on}
use Rattle.joining.proofs.Turning.{begins, at_turn, ends}
use Rattle.joining.proofs.turns.Walk.run.Goals as goal

pub returns-in_default-clause-answer : goal.returns-in_default-clause-answer
returns-in_default-clause-answer g c ready sound first second right =
    let vs = g.B.Shelf.vertices c.args.self.now.shelf.now in
    let begun = begins g.S.Symbol.before vs (number_of c.loop-turn.self.rule) _ c.args.pair (waiting c.args.self.now.stack) (ap (map frame_of) c.requires.empty) sound first second right in
    subst (λ (r : Rule). Walked g.S.Symbol.before (g.B.Shelf.capacity c.args.self.now.shelf.now) vs (joint g.S.Symbol.before vs (number_of r) c.args.pair) (Ok c.in-Answer.n) (g.B.Shelf.vertices c.loop-turn.self.shelf.now) (g.R.RecallTable.table c.loop-turn.self.recall.now))
    c.loop-turn.invariant.1
    (ends g.S.Symbol.before vs (number_of c.loop-turn.self.rule) _ _ (waiting c.loop-turn.self.stack) _ c.loop-turn.turn c.in-Answer.n (ap (map frame_of) c.in_default.ensures.frames) c.in-Answer.is
    (c.loop-turn.invariant.4 ready vs _ begun))

pub returns-in_err-turn-in-Answer-clause-answer : goal.returns-in_err-turn-in-Answer-clause-answer
returns-in_err-turn-in-Answer-clause-answer g c ready sound first second right =
    let vs = g.B.Shelf.vertices c.args.self.now.shelf.now in
    let begun = begins g.S.Symbol.before vs (number_of c.loop-turn.self.rule) _ c.args.pair (waiting c.args.self.now.stack) (ap (map frame_of) c.requires.empty) sound first second right in
    let top = put_on c.pop.new.self c.in-Some.place c.from.result c.loop-turn.self.stack c.in-Some.ensures.frames (sym c.from.ensures) in
    let t = c.in_err-turn-in-Answer.ensures.turns (c.loop-turn.invariant.3 ready) vs _
    (at_turn g.S.Symbol.before vs (number_of c.loop-turn.self.rule) _ _ (waiting c.loop-turn.self.stack) _ _ c.loop-turn.turn _ top c.in-Answer.is (c.loop-turn.invariant.4 ready vs _ begun)) in
    let p = err_from_is_err_and c.from_residual.result c.from_residual.ensures.1 in
    subst⁻¹ (λ (x : Result ℕ Full). Walked g.S.Symbol.before (g.B.Shelf.capacity c.args.self.now.shelf.now) vs (joint g.S.Symbol.before vs (number_of c.args.self.now.rule) c.args.pair) x (g.B.Shelf.vertices c.answer.new.self.shelf.now) (g.R.RecallTable.table c.answer.new.self.recall.now)) p.1
    (subst (λ (r : Rule). (g.B.Shelf.capacity c.args.self.now.shelf.now < length (lay g.S.Symbol.before (lists vs) (joint g.S.Symbol.before vs (number_of r) c.args.pair))) × ((more : List (Vertex g.row.S.Denot)) × (g.B.Shelf.vertices c.answer.new.self.shelf.now ≡ vs ++ more)))
    c.loop-turn.invariant.1
    (subst (λ (n : ℕ). n < length (lay g.S.Symbol.before (lists vs) (joint g.S.Symbol.before vs (number_of c.loop-turn.self.rule) c.args.pair))) c.loop-turn.invariant.2 t.0, t.1))
