use Rattle.std.proofs.Common.{◌≡◌, ◌++◌, take, drop}
use Rattle.letters.specs.Codes.{text_of}
use Rattle.letters.proofs.write_letters.Given as goal

abbrev pub invariant-loop-i : goal.invariant-loop-i
invariant-loop-i l = l.out ≡ text_of (take l.i l.code) ++ drop l.i l.initial.out
