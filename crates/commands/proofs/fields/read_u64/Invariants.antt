use Rattle.std.proofs.Common.{◌≡◌, drop}
use Rattle.commands.specs.Reading.{number_after}
use Rattle.commands.proofs.fields.read_u64.Given as goal

abbrev pub invariant-loop-b : goal.invariant-loop-b
invariant-loop-b l = number_after 0 l.digits ≡ number_after l.n (drop l.b-index l.digits)
