-- The table that tells equal records: each record stands in the bucket of its vertex, behind those that came later.
use Rattle.std.specs.Prelude.{◌≡◌, ℕ, zero, suc, ◌+◌, ◌<◌, cond, List, Some, None, Option, ◌==◌, ◌≢◌, slice_index_or}
use Rattle.std.specs.List.{slice_get}
use Rattle.ledger.specs.declared.Vertex.{Vertex}
use Rattle.memory.specs.declared.work.Place.{Place}
use Rattle.memory.specs.Buckets.{bucket}
use Rattle.receiving.specs.Walks.{vacant}

-- the last of the first k with this bucket, counted from 1; or 0
unfoldable pub latest : (ℕ → ℕ) → ℕ → ℕ → ℕ
latest f zero b = 0
latest f (suc k) b = cond (f k == b) (suc k) (latest f k b)

module _ {S : Type 0} (scatter : S → ℕ) where
  -- the bucket of record k; none past the records
  abbrev pub bucket_in : ℕ → Option (Vertex S) → ℕ
  bucket_in count None = count
  bucket_in count (Some v) = bucket scatter count v

  abbrev pub bucket_at : ℕ → List (Vertex S) → ℕ → ℕ
  bucket_at count ds k = bucket_in count (slice_get ds k)

  -- the first k records are in the table: a bucket leads to its last record, and a record to the one before it there
  pub record Table (ds : List (Vertex S)) (count k : ℕ) (work : List Place) : Type 0 where
    pub heads : (b : ℕ) → b < count → (slice_index_or work b vacant).list ≡ latest (bucket_at count ds) k b
    pub nexts : (j : ℕ) → j < k → (slice_index_or work j vacant).other ≡ latest (bucket_at count ds) j (bucket_at count ds j)

-- the first k are all different
abbrev pub FirstApart : {S : Type 0} → List (Vertex S) → ℕ → Type 0
FirstApart {S} ds k = (i j : ℕ) (v : Vertex S) → i < k → j < k → slice_get ds i ≡ Some v → slice_get ds j ≡ Some v → i ≡ j

-- a record is put in front of its bucket
pub record PutInFront (entry : List Place) (b k : ℕ) (exit : List Place) : Type 0 where
  pub head_new : (slice_index_or exit b vacant).list ≡ k + 1
  pub heads_old : (a : ℕ) → (a ≢ b) → (slice_index_or exit a vacant).list ≡ (slice_index_or entry a vacant).list
  pub next_new : (slice_index_or exit k vacant).other ≡ (slice_index_or entry b vacant).list
  pub nexts_old : (j : ℕ) → (j ≢ k) → (slice_index_or exit j vacant).other ≡ (slice_index_or entry j vacant).other
