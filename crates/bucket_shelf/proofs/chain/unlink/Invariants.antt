use Rattle.std.proofs.Common.{◌≡◌, ◌+◌, ◌≤◌, min, length, take, drop}
use Rattle.bucket_shelf.specs.Chains.{Chained}
use Rattle.bucket_shelf.proofs.chain.unlink.Given as goal

-- the entries that are left are those from n on, as far as they are still in their chains
abbrev pub invariant-loop-entry : goal.invariant-loop-entry
invariant-loop-entry g l =
    let left = l.entry-iterator.iter.rest.now in
    let low = min l.n l.used in
    (low + length left ≤ l.used) × (left ≡ take (length left) (drop low l.records)) ×
    (Chained g.S.Symbol.scatter l.records l.initial.heads l.used → Chained g.S.Symbol.scatter l.records l.heads (low + length left))
