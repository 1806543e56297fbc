use Rattle.std.proofs.Common.{refl}
use Rattle.memory.proofs.Spreading.{place_marked}
use Rattle.memory.proofs.reached.mark.Goals as goal

pub returns-then-place-marks : goal.returns-then-place-marks
returns-then-place-marks c = place_marked c.args.marks.now c.args.n _ c.if-n-lt2.false refl
