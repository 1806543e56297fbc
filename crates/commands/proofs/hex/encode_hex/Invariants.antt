use Rattle.std.proofs.Common.{◌≡◌, ◌*◌, ◌++◌, take, drop}
use Rattle.commands.specs.Hexadecimals.{hexadecimal}
use Rattle.commands.proofs.hex.encode_hex.Given as goal

abbrev pub invariant-loop-i : goal.invariant-loop-i
invariant-loop-i l = l.out ≡ hexadecimal (take l.i l.bytes) ++ drop (2 * l.i) l.initial.out
