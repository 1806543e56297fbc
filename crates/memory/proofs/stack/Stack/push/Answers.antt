use Rattle.std.proofs.Common.{◌∷◌, ap, ◌∙◌, arith, length-set}
use Rattle.memory.specs.Stacked.{Stacked}
use Rattle.memory.proofs.Stacking.{pushed, there_is_room}
use Rattle.memory.proofs.stack.Stack.push.Goals as goal

pub bounds-self-inside-self-inside : goal.bounds-self-inside-self-inside
bounds-self-inside-self-inside c = there_is_room c.self.inside.places.now c.self.inside.height c.args.self.now c.self.view_is c.requires

pub invariant_of-self : goal.invariant_of-self
invariant_of-self c =
    let h = there_is_room c.self.inside.places.now c.self.inside.height c.args.self.now c.self.view_is c.requires in
    simp length-set (omega arith)

pub returns-clause-frames : goal.returns-clause-frames
returns-clause-frames c =
    pushed c.self.inside.places.now c.self.inside.height c.args.place
    (there_is_room c.self.inside.places.now c.self.inside.height c.args.self.now c.self.view_is c.requires) ∙
    ap (λ (s : Stacked). c.args.place ∷ s.frames) c.self.view_is
