use Rattle.std.proofs.Common.{subst, arith}
use Rattle.paths.specs.declared.frames.Frame.{Frame}
use Rattle.paths.specs.Waiting.{Makes}
use Rattle.paths.proofs.Growing.{resume_zero, zero_there, resume_one, resume_none, symbol_there}
use Rattle.paths.proofs.changing.resume.Goals as goal

pub returns-in_default-clause-answer : goal.returns-in_default-clause-answer
returns-in_default-clause-answer g c ready vs t u sound begins laid makes proper =
    absurd (zero_there g.S.Symbol.before g.met.S.Symbol.ordered vs _ sound begins t _ laid u c.args.code.now c.in-Zero.vertex (c.in_default.ensures.value laid.sound.formed) (subst (λ (f : Frame). Makes vs c.args.code.now f t u) c.in-Zero.is makes))

pub returns-in-Some-clause-answer : goal.returns-in-Some-clause-answer
returns-in-Some-clause-answer g c ready vs t u sound begins laid makes proper =
    resume_zero g.S.Symbol.before g.met.S.Symbol.ordered vs _ sound begins t _ laid u c.args.code.now c.in-Zero.vertex _ _ _ (c.in-Some.ensures.value laid.sound.formed)
    (subst (λ (f : Frame). Makes vs c.args.code.now f t u) c.in-Zero.is makes) proper _ _ _ (c.find_or_append.ensures.answer ready)

pub returns-in-Some-get-clause-answer : goal.returns-in-Some-get-clause-answer
returns-in-Some-get-clause-answer g c ready vs t u sound begins laid makes proper =
    resume_one g.S.Symbol.before g.met.S.Symbol.ordered vs _ sound begins t _ laid u c.args.code.now c.in-One.zero c.in-One.spot
    (subst (λ (f : Frame). Makes vs c.args.code.now f t u) c.in-One.is makes) c.in-Some-get.symbol.now c.in-Some-get.ensures.lookup.3.0 c.in-Some-get.ensures.lookup.1 (omega arith) proper
    _ _ _ (c.find_or_append-in-Some-get.ensures.answer ready)

pub returns-in_default-get-clause-answer : goal.returns-in_default-get-clause-answer
returns-in_default-get-clause-answer g c ready vs t u sound begins laid makes proper =
    resume_none g.S.Symbol.before g.met.S.Symbol.ordered vs _ sound begins t _ laid u c.args.code.now c.in-One.zero c.in-One.spot
    (subst (λ (f : Frame). Makes vs c.args.code.now f t u) c.in-One.is makes) (omega arith) (g.B.Shelf.capacity c.args.shelf.now)

pub returns-in_default-get-2-clause-answer : goal.returns-in_default-get-2-clause-answer
returns-in_default-get-2-clause-answer g c ready vs t u sound begins laid makes proper =
    absurd (symbol_there g.S.Symbol.before g.met.S.Symbol.ordered vs _ sound begins t _ laid u c.args.code.now c.in-One.zero c.in-One.spot
    (subst (λ (f : Frame). Makes vs c.args.code.now f t u) c.in-One.is makes) (rw c.in_default-get.is at c.get.ensures.lookup.3))
