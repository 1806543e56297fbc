-- Records in chains, one chain for each head. Chains go down, from the highest vertex of a bucket to the lowest.
use Rattle.std.specs.Prelude.{◌≡◌, ℕ, ◌-◌, ◌<◌, ◌≤◌, min, true, false, cond, List, map, length, take, Some, ◌==◌, slice_index}
use Rattle.std.proofs.Common.{length-take, arith}
use Rattle.std.specs.List.{slice_get}
use Rattle.ledger.specs.declared.Vertex.{Vertex}
use Rattle.bucket_shelf.specs.declared.Entry.{Entry}
use Rattle.memory.specs.Buckets.{bucket}

abbrev pub vertex_of : {S : Type 0} → Entry S → Vertex S
vertex_of e = e.vertex

abbrev pub vertices_in : {S : Type 0} → List (Entry S) → List (Vertex S)
vertices_in es = map vertex_of es

-- how many vertices there may be: none without heads
abbrev pub room : {S : Type 0} → List (Entry S) → List ℕ → ℕ
room es hs = cond (length hs == 0) 0 (min (length es) 1000000)

-- t is one more than the highest index below u of a vertex in bucket b, or 0 where there is none
pub record Top {S : Type 0} (in_bucket : Vertex S → ℕ) (vs : List (Vertex S)) (u b t : ℕ) : Type 0 where
  pub below : t ≤ u
  pub above : (k : ℕ) (w : Vertex S) → k < u → slice_get vs k ≡ Some w → in_bucket w ≡ b → k < t
  pub there : (w : Vertex S) → 0 < t → slice_get vs (t - 1) ≡ Some w → in_bucket w ≡ b

-- each head, and each `next` of the first u records, leads to the highest vertex of its bucket below
pub record Chained {S : Type 0} (scatter : S → ℕ) (es : List (Entry S)) (hs : List ℕ) (u : ℕ) : Type 0 where
  pub heads : (b : ℕ) → b < length hs → Top (bucket scatter (length hs)) (vertices_in es) u b (slice_index hs b)
  pub nexts : (j : ℕ) (e : Entry S) → j < u → slice_get es j ≡ Some e →
      Top (bucket scatter (length hs)) (vertices_in es) j (bucket scatter (length hs) e.vertex) e.next

-- the room that h heads and l records make
pub room_under : (h l : ℕ) → (cond (h == 0) 0 (min l 1000000) ≤ l) × (cond (h == 0) 0 (min l 1000000) ≤ 1000000)
room_under h l =
    elim (h == 0) as (λ b. (cond b 0 (min l 1000000) ≤ l) × (cond b 0 (min l 1000000) ≤ 1000000)) [
      | true ↦ (omega arith, omega arith)
      | false ↦ (omega arith, omega arith)
    ]

-- whether there are heads or none, there is a record for each vertex
pub room_records : {S : Type 0} (es : List (Entry S)) (hs : List ℕ) → (room es hs ≤ length es) × (room es hs ≤ 1000000)
room_records es hs = room_under (length hs) (length es)

pub room_bounds : {S : Type 0} (used : ℕ) (es : List (Entry S)) (hs : List ℕ) → used ≤ room es hs → (length (take used (vertices_in es)) ≤ room es hs) × (room es hs ≤ 1000000)
room_bounds used es hs h = (omega (arith, length-take used (vertices_in es)), (room_records es hs).1)

-- the same of any `used`, as far as the room goes
pub room_bounds_cut : {S : Type 0} (used : ℕ) (es : List (Entry S)) (hs : List ℕ) → (length (take (min used (room es hs)) (vertices_in es)) ≤ room es hs) × (room es hs ≤ 1000000)
room_bounds_cut used es hs = room_bounds (min used (room es hs)) es hs (omega arith)
