use Rattle.std.proofs.Common.{◌≡◌, ◌∷◌, length, sym, ap, ◌∙◌, subst, ap₂, arith}
use Rattle.receiving.specs.Walks.{Reaches}
use Rattle.receiving.proofs.Walking.{task_some, leads_passed, leads_vertex, down_push}
use Rattle.receiving.proofs.records.Records.do_task.Goals as goal

pub returns-in-Visit-clause-down : goal.returns-in-Visit-clause-down
returns-in-Visit-clause-down g c = (c.requires.fits, let t = task_some c.args.task in omega arith)

pub returns-in-Visit-clause-leads : goal.returns-in-Visit-clause-leads
returns-in-Visit-clause-leads g c = λ k. rw c.in-Visit.is (leads_passed c.args.self.now k c.args.stack.now.frames c.in-Visit.n c.args.passed (omega arith))

pub returns-in_ok-vertex-in-Visit-2 : goal.returns-in_ok-vertex-in-Visit-2
returns-in_ok-vertex-in-Visit-2 g c =
    let ps = c.args.stack.now.frames in
    let n = c.in-Visit-2.n in
    let same : c.in-Visit.n ≡ n = (let a = c.in-Visit.is in let b = c.in-Visit-2.is in cc) in
    let v = c.in_ok-vertex-in-Visit-2.vertex in
    let below = c.in_ok-vertex-in-Visit-2.ensures.below in
    let frames =
    c.push-in-Visit-2-2.ensures.frames ∙
    ap₂ (λ q qs. q ∷ qs) c.into-in-Visit-2-2.ensures (c.push-in-Visit-2.ensures.frames ∙ ap₂ (λ q qs. q ∷ qs) c.into-in-Visit-2.ensures (c.push.ensures.frames ∙ ap (λ q. q ∷ ps) c.into.ensures)) in
    record {
      down = rw c.in-Visit-2.is (down_push c.args.stack.now.room n v.zero v.one ps _ (subst (Reaches c.args.stack.now.room (length ps)) c.in-Visit-2.is c.requires.reaches) c.requires.fits below.1 below.2 frames);
      leads = λ k. rw c.in-Visit-2.is (leads_vertex c.args.self.now k ps n c.args.passed (omega (arith, same)) v (sym c.in_ok-vertex-in-Visit-2.ensures.value) _ frames);
      room = c.push-in-Visit-2-2.ensures.room ∙ c.push-in-Visit-2.ensures.room ∙ c.push.ensures.room;
    }
