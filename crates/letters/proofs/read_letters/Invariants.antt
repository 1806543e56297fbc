use Rattle.std.proofs.Common.{◌≡◌, List, length, take, Ok}
use Rattle.texts.specs.Texts.{filled}
use Rattle.letters.specs.Codes.{spelled}
use Rattle.letters.specs.declared.Letter.{Letter}
use Rattle.letters.proofs.read_letters.Given as goal

-- the letters so far are spelled, and stand in the output
abbrev pub invariant-loop-i : goal.invariant-loop-i
invariant-loop-i l = (code : List Letter) × (spelled (take l.i l.from) ≡ Ok code) × (length code ≡ l.i) × (l.out ≡ filled code l.initial.out)
