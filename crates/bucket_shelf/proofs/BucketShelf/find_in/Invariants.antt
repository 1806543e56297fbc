use Rattle.std.proofs.Common.{◌≤◌, length}
use Rattle.memory.specs.Buckets.{bucket}
use Rattle.bucket_shelf.specs.Chains.{vertices_in, Chained}
use Rattle.bucket_shelf.proofs.Walking.{Walk}
use Rattle.bucket_shelf.proofs.BucketShelf.find_in.Given as goal

abbrev pub invariant-loop-top : goal.invariant-loop-top
invariant-loop-top g l =
    (l.top ≤ l.self.used) ×
    (Chained g.S.Symbol.scatter l.self.records.now l.self.heads.now l.self.used →
    Walk (bucket g.S.Symbol.scatter (length l.self.heads.now)) (vertices_in l.self.records.now) l.self.used (bucket g.S.Symbol.scatter (length l.self.heads.now) l.wanted) l.wanted l.top l.found)

abbrev pub decreases-loop-top : goal.decreases-loop-top
decreases-loop-top g l = l.top
