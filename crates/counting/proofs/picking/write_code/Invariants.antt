use Rattle.std.proofs.Common.{◌≡◌, ◌≤◌, drop}
use Rattle.counting.specs.Courses.{Walkable, code_at, whole}
use Rattle.counting.proofs.picking.write_code.Given as goal

abbrev pub invariant-loop-next : goal.invariant-loop-next
invariant-loop-next g l =
    (l.course.length ≤ 64) × (drop l.course.length l.out ≡ drop l.course.length l.initial.out) ×
    (Walkable g.S.Symbol.before (g.B.Shelf.vertices l.shelf) l.initial.course.rest l.work →
    Walkable g.S.Symbol.before (g.B.Shelf.vertices l.shelf) l.course.rest l.work ×
    (whole (g.B.Shelf.vertices l.shelf) l.course l.out ≡ code_at (g.B.Shelf.vertices l.shelf) l.initial.course.rest))

abbrev pub decreases-loop-next : goal.decreases-loop-next
decreases-loop-next g l = l.course.rest.list
