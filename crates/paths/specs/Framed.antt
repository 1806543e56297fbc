-- What a place of work space holds in a walk down a code's path.
use Rattle.std.specs.Prelude.{cond, ◌==◌}
use Rattle.memory.specs.declared.work.Place.{Place}
use Rattle.paths.specs.declared.frames.Frame.{Frame}
use Rattle.paths.specs.declared.frames.Frame.TheVariants.{Zero, One}

abbrev pub frame_in : Place → Frame
frame_in p = cond (p.state == 0) (Zero p.list) (One p.list p.count)
