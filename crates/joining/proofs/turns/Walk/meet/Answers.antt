use Rattle.std.proofs.Common.{rules, sym}
use Rattle.joining.specs.Rules.{number_of}
use Rattle.joining.specs.Frames.{waiting}
use Rattle.joining.proofs.Weights.{nearer_known, nearer_push}
use Rattle.joining.proofs.Stacks.{put_on}
use Rattle.joining.proofs.Turning.{turn_known, settles_none, turn_never, turn_push}
use Rattle.joining.proofs.turns.Walk.meet.Goals as goal

pub returns-in-Some-clause-nearer : goal.returns-in-Some-clause-nearer
returns-in-Some-clause-nearer g c = nearer_known _ _ c.args.pair c.requires c.in-Some.n

pub returns-in-Some-clause-goes : goal.returns-in-Some-clause-goes
returns-in-Some-clause-goes g c old goal R =
    turn_known g.S.Symbol.before g.met.S.Symbol.ordered old (number_of c.args.self.now.rule) goal _ _ (waiting c.args.self.now.stack) c.args.pair R c.in-Some.n _ c.shortcut.result c.shortcut.ensures
    c.in-Some.ensures (λ told. search rules)

pub returns-in_default-take_apart-clause-nearer : goal.returns-in_default-take_apart-clause-nearer
returns-in_default-take_apart-clause-nearer g c = nearer_known _ _ c.args.pair c.requires 0

pub returns-in_default-take_apart-clause-goes : goal.returns-in_default-take_apart-clause-goes
returns-in_default-take_apart-clause-goes g c old goal R =
    let open_pair = settles_none (number_of c.args.self.now.rule) c.args.pair _ c.shortcut.result c.shortcut.ensures c.in_default.ensures in
    absurd
    (turn_never g.S.Symbol.before g.met.S.Symbol.ordered old (number_of c.args.self.now.rule) goal _ _ (waiting c.args.self.now.stack) c.args.pair R open_pair.0 open_pair.1 open_pair.2
    (sym (c.in_default-take_apart.ensures.value R.sound.formed)))

pub returns-clause-nearer : goal.returns-clause-nearer
returns-clause-nearer g c =
    nearer_push _ _ c.args.pair c.requires c.in-Some-take_apart.split.outer c.in-Some-take_apart.ensures.below.0 _ _ c.push.ensures.room
    (put_on c.args.self.now.stack c.from.result _ c.push.new.self c.push.ensures.frames c.from.ensures)

pub returns-clause-goes : goal.returns-clause-goes
returns-clause-goes g c old goal R =
    let open_pair = settles_none (number_of c.args.self.now.rule) c.args.pair _ c.shortcut.result c.shortcut.ensures c.in_default.ensures in
    turn_push g.S.Symbol.before g.met.S.Symbol.ordered old (number_of c.args.self.now.rule) goal _ _ (waiting c.args.self.now.stack) c.args.pair R open_pair.0 open_pair.1
    c.in-Some-take_apart.split (sym (c.in-Some-take_apart.ensures.value R.sound.formed)) _
    (put_on c.args.self.now.stack c.from.result _ c.push.new.self c.push.ensures.frames c.from.ensures)
