use Rattle.std.proofs.Common.{◌∙◌}
use Rattle.writing.specs.Walks.{waiting}
use Rattle.writing.proofs.Stacking.{waiting_push}
use Rattle.writing.proofs.Turning.{link_turns, link_leads, has_place, vertex_turns, vertex_leads}
use Rattle.writing.proofs.walk.turn.Goals as goal

pub meet-requires-clause-few : goal.meet-requires-clause-few
meet-requires-clause-few g c = has_place c.args.seen.now c.args.met c.args.last.list (waiting c.args.stack.now.frames) c.requires.walking

pub returns-in-Some : goal.returns-in-Some
returns-in-Some g c =
    let others = waiting c.args.stack.now.frames in
    let link = c.in-Some.link in
    let below = c.in-Some.ensures.below in
    let ns = waiting c.push-in-Some.new.self.frames in
    let on_top = waiting_push c.args.last c.waiting_place.result link c.args.stack.now.frames c.push.new.self.frames c.push-in-Some.new.self.frames c.push.ensures.frames c.waiting_place.ensures c.push-in-Some.ensures.frames in
    record {
      walking = link_turns c.args.seen.now c.args.met c.args.last.list others c.requires.walking link below ns on_top;
      value = λ sound.
          link_leads c.args.seen.now c.args.met c.args.last.list others c.requires.walking link below ns on_top
          g.S.Symbol.before g.met.S.Symbol.ordered (g.B.Shelf.vertices c.args.shelf.now) sound c.requires.size (c.in-Some.ensures.value sound.formed);
      room = c.push-in-Some.ensures.room ∙ c.push.ensures.room;
    }

pub returns-in-None-clause-walking : goal.returns-in-None-clause-walking
returns-in-None-clause-walking g c =
    vertex_turns c.args.seen.now c.args.met c.args.last.list (waiting c.args.stack.now.frames) c.requires.walking c.meet.new.seen c.meet.ensures

pub returns-in-None-clause-value : goal.returns-in-None-clause-value
returns-in-None-clause-value g c = λ sound.
    vertex_leads c.args.seen.now c.args.met c.args.last.list (waiting c.args.stack.now.frames) c.requires.walking c.meet.new.seen c.meet.ensures
    g.S.Symbol.before g.met.S.Symbol.ordered (g.B.Shelf.vertices c.args.shelf.now) sound c.requires.size (c.in-None.ensures.value sound.formed)
