use Rattle.std.proofs.Common.{◌≡◌, ◌+◌, length, take}
use Rattle.std.specs.List.{flat_map, AllByRecursion}
use Rattle.steps.specs.Paths.{slashed, laid, Short}
use Rattle.steps.proofs.writing.write_steps.Given as goal

-- the steps after the first stand behind it, each with its slash
abbrev pub invariant-loop-step : goal.invariant-loop-step
invariant-loop-step l =
    (l.at ≡ l.initial.at + length (flat_map slashed (take l.step-index l.rest))) × (l.out ≡ laid l.initial.at (flat_map slashed (take l.step-index l.rest)) l.initial.out)
    × AllByRecursion Short (take l.step-index l.rest)
