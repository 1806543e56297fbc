-- The records of the vertices that are met.
use Rattle.std.specs.Prelude.{◌≡◌, ℕ, zero, suc, ◌+◌, ◌*◌, List, [], ◌∷◌, ◌++◌, take, drop, Some, None, Option}
use Rattle.memory.specs.declared.work.Place.{Place}
use Rattle.ledger.specs.declared.Vertex.{Vertex}
use Rattle.ledger.specs.Diagrams.{look}
use Rattle.ledger.specs.Dispatch.{records}
use Rattle.wire.specs.Records.{record_bytes}
use Rattle.writing.specs.Met.{list_at, NewLink}

-- the k-th vertex that is met, with its links renumbered
abbrev pub Renumbered : {S : Type 0} → List (Vertex S) → List Place → ℕ → ℕ → Option (Vertex S) → Type 0
Renumbered vs ps m k None = ⊥
Renumbered {S} vs ps m k (Some w) =
    (v : Vertex S) × (look vs (list_at ps k) ≡ Some v) × (w.label ≡ v.label) × NewLink ps m v.zero w.zero × NewLink ps m v.one w.one

-- the first k of them
abbrev pub Drawn : {S : Type 0} → List (Vertex S) → List Place → ℕ → ℕ → List (Vertex S) → Type 0
Drawn vs ps m zero ws = ws ≡ []
Drawn {S} vs ps m (suc k) ws =
    (front : List (Vertex S)) × (w : Vertex S) × Drawn vs ps m k front × Renumbered vs ps m k (Some w) × (ws ≡ front ++ w ∷ [])

-- where record k begins
abbrev pub start_of : ℕ → ℕ → ℕ
start_of width k = 14 + k * (width + 8)

-- record k is written
abbrev pub PutAt : {S : Type 0} → List (Vertex S) → List Place → ℕ → ℕ → ℕ → (S → List ℕ) → List ℕ → List ℕ → Type 0
PutAt {S} vs ps m k width bytes out after =
    (w : Vertex S) × Renumbered vs ps m k (Some w) × (after ≡ take (start_of width k) out ++ (record_bytes bytes w ++ drop (start_of width (k + 1)) out))

-- the first k records are written
abbrev pub Filled : {S : Type 0} → List (Vertex S) → List Place → ℕ → ℕ → ℕ → (S → List ℕ) → List ℕ → List ℕ → Type 0
Filled {S} vs ps m k width bytes out after =
    (ws : List (Vertex S)) × Drawn vs ps m k ws × (after ≡ take 14 out ++ (records bytes ws ++ drop (start_of width k) out))
