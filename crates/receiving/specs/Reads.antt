-- What the bytes of records hold, once each is right.
use Rattle.std.specs.Prelude.{◌≡◌, ℕ, ◌+◌, ◌*◌, ◌<◌, ◌≤◌, Bool, List, [], length, Some, None, Ok, Err, Option, Result}
use Rattle.std.specs.List.{slice_get}
use Rattle.symbols.specs.Wire.{Travel}
use Rattle.ledger.specs.declared.Vertex.{Vertex}
use Rattle.ledger.specs.Diagrams.{Formed}
use Rattle.wire.specs.Records.{record_of, records_in}
use Rattle.wire.specs.declared.faults.FaultyRecord.{FaultyRecord}
use Rattle.receiving.specs.Checks.{record_at}

-- the bytes are a record a vertex, and each reads as its vertex
pub record ReadAs {S : Type 0} (t : Travel S) (bs : List ℕ) (ds : List (Vertex S)) : Type 0 where
  pub long : length bs ≡ length ds * (t.width + 8)
  pub each : (k : ℕ) (v : Vertex S) → slice_get ds k ≡ Some v → record_of t (k + 2) (record_at t.width bs k) ≡ Ok v

-- the links of a vertex that was read lead below its number
abbrev pub LinksFall : {S : Type 0} → ℕ → Option (Vertex S) → Type 0
LinksFall n None = Unit {0}
LinksFall n (Some v) = (2 ≤ n) × (v.zero < n) × (v.one < n)

-- the vertices that n records read as; none, where one is faulty
abbrev pub rows_of : {S : Type 0} → Result (List (Vertex S)) FaultyRecord → List (Vertex S)
rows_of (Ok ds) = ds
rows_of (Err e) = []

abbrev pub rows_in : {S : Type 0} → (S → S → Bool) → Travel S → ℕ → List ℕ → List (Vertex S)
rows_in before t n bs = rows_of (records_in before t n [] bs)

-- n records, each of which is right
pub record Whole {S : Type 0} (before : S → S → Bool) (t : Travel S) (n : ℕ) (bs : List ℕ) : Type 0 where
  pub reads : ReadAs t bs (rows_in before t n bs)
  pub formed : Formed before (rows_in before t n bs)
  pub many : length (rows_in before t n bs) ≡ n
