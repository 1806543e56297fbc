use Rattle.std.proofs.Common.{◌≡◌, ◌*◌, take, drop}
use Rattle.commands.specs.Hexadecimals.{hexadecimal, Bytes}
use Rattle.commands.proofs.hex.decode_hex.Given as goal

abbrev pub invariant-loop-i : goal.invariant-loop-i
invariant-loop-i l =
    (hexadecimal (take l.i l.out) ≡ take (2 * l.i) l.hex) × Bytes (take l.i l.out) × (drop l.i l.out ≡ drop l.i l.initial.out)
