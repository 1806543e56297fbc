use Rattle.std.proofs.Common.{◌≡◌, drop}
use Rattle.commands.specs.Reading.{all_digits}
use Rattle.commands.proofs.hex.has_only_digits.Given as goal

abbrev pub invariant-loop-b : goal.invariant-loop-b
invariant-loop-b l = all_digits l.text ≡ all_digits (drop l.b-index l.text)
