use Rattle.std.proofs.Common.{◌≡◌, drop, None}
use Rattle.store.specs.State.{check_lists}
use Rattle.store.proofs.store.Store.check_keep.Given as goal

abbrev pub invariant-loop-place : goal.invariant-loop-place
invariant-loop-place g l =
    check_lists l.self.vertices 0 l.keep None ≡
    check_lists l.self.vertices l.place (drop l.place l.keep) None
