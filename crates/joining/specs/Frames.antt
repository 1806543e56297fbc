-- Frames in places of work space.
use Rattle.std.specs.Prelude.{cond, List, map, Some, None, ◌==◌}
use Rattle.memory.specs.declared.work.Place.{Place}
use Rattle.memory.specs.Stacked.{Stacked}
use Rattle.joining.specs.declared.frames.Frame.{Frame}

abbrev pub frame_of : Place → Frame
frame_of p = record { pair = record { first = p.list; second = p.other }; outer = cond (p.state == 0) None (Some p.number) }

-- the frames that wait on a stack, the top one first
abbrev pub waiting : Stacked → List Frame
waiting stack = map frame_of stack.frames
