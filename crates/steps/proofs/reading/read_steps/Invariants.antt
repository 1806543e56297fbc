use Rattle.std.proofs.Common.{◌≡◌, ◌+◌, ◌≤◌, List, ◌++◌, length, drop}
use Rattle.std.specs.Option.{option_map}
use Rattle.texts.specs.Texts.{filled}
use Rattle.steps.specs.Stages.{steps_from}
use Rattle.steps.specs.declared.Step.{Step}
use Rattle.steps.specs.declared.reading.Stage.TheVariants.{Start}
use Rattle.steps.proofs.Turns.{pending}
use Rattle.steps.proofs.reading.read_steps.Given as goal

-- the steps so far stand in the output, and what remains of the text gives the others
abbrev pub invariant-loop-b : goal.invariant-loop-b
invariant-loop-b l =
    (code : List Step) × (length code ≡ l.count) × (l.count + pending l.stage ≤ l.b-index) × (steps_from Start l.from ≡ option_map (λ rest. code ++ rest) (steps_from l.stage (drop l.b-index l.from)))
    × (l.out ≡ filled code l.initial.out)
