use Rattle.std.proofs.Common.{◌≡◌, ◌+◌, length, take}
use Rattle.std.specs.List.{flat_map}
use Rattle.steps.specs.Paths.{slashed}
use Rattle.steps.proofs.writing.room_after.Given as goal

-- what the first step leaves is what the steps after it take so far, and what is left
abbrev pub invariant-loop-step : goal.invariant-loop-step
invariant-loop-step l = l.left + length (flat_map slashed (take l.step-index l.rest)) ≡ l.initial.left
