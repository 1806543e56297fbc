-- A walk down a chain finds the lowest equal vertex.
use Rattle.std.proofs.Common.{◌≡◌, ℕ, ◌+◌, ◌-◌, ◌<◌, ◌≤◌, min, List, length, get_or, take, Some, None, Option, sym, refl, ◌∙◌, subst, ⊎_elim, arith}
use Rattle.std.specs.List.{slice_get}
use Rattle.std.proofs.lemmas.Bool.{cases_lt}
use Rattle.ledger.specs.declared.Vertex.{Vertex}
use Rattle.ledger.specs.Laid.{First}
use Rattle.ledger.proofs.Least.{vertex_from_2}
use Rattle.bucket_shelf.specs.declared.Entry.{Entry}
use Rattle.memory.specs.Buckets.{bucket}
use Rattle.bucket_shelf.specs.Chains.{vertex_of, vertices_in, Top, Chained}
use Rattle.bucket_shelf.proofs.Indices.{nth_whole, nth_part, nth_map, look_at}

-- the lowest v from index t on, by its number
abbrev pub LowestFrom : {S : Type 0} → List (Vertex S) → ℕ → Vertex S → ℕ → Option ℕ → Type 0
LowestFrom vs u v t None = (k : ℕ) → t ≤ k → k < u → slice_get vs k ≡ Some v → ⊥
LowestFrom vs u v t (Some m) = (t + 2 ≤ m) × (m < u + 2) × (slice_get vs (m - 2) ≡ Some v) × ((k : ℕ) → t ≤ k → k + 2 < m → slice_get vs k ≡ Some v → ⊥)

-- what the walk has come to: below t lies what is left of the bucket's chain
pub record Walk {S : Type 0} (p : Vertex S → ℕ) (vs : List (Vertex S)) (u b : ℕ) (v : Vertex S) (t : ℕ) (found : Option ℕ) : Type 0 where
  pub there : (w : Vertex S) → 0 < t → slice_get vs (t - 1) ≡ Some w → p w ≡ b
  pub seen : LowestFrom vs u v t found

module _ {S : Type 0} (p : Vertex S → ℕ) (vs : List (Vertex S)) (u : ℕ) (v : Vertex S) where
  -- from the head
  walk_none : (t : ℕ) → Top p vs u (p v) t → Walk p vs u (p v) v t None
  walk_none t h =
      record {
        there = h.there;
        seen = λ k q r e. let l : k < t = h.above k v r e refl in omega arith;
      }

  -- past a vertex that is v
  pub walk_yes : (at t : ℕ) → 0 < at → at ≤ u → slice_get vs (at - 1) ≡ Some v → Top p vs (at - 1) (p v) t → Walk p vs u (p v) v t (Some (at + 1))
  walk_yes at t h l e q =
      record {
        there = q.there;
        seen = (
          omega (arith, q.below),
          omega arith,
          (let z : at + 1 - 2 ≡ at - 1 = omega arith in rw z e),
          λ k a c d. let m : k < t = q.above k v (omega arith) d refl in omega arith,
        );
      }

  passed : (w : Vertex S) (at t : ℕ) → 0 < at → slice_get vs (at - 1) ≡ Some w → (w ≡ v → ⊥) → Top p vs (at - 1) (p v) t → (k : ℕ) → t ≤ k → k < at → slice_get vs k ≡ Some v → ⊥
  passed w at t h e apart q k a c d =
      ⊎_elim (λ l. let m : k < t = q.above k v l d refl in omega arith)
      (λ l. let z : k ≡ at - 1 = omega arith in let r : slice_get vs (at - 1) ≡ Some v = rw z at d in apart (cc))
      (cases_lt k (at - 1))

  lowest_more : (at t : ℕ) → t ≤ at → ((k : ℕ) → t ≤ k → k < at → slice_get vs k ≡ Some v → ⊥) → (o : Option ℕ) → LowestFrom vs u v at o → LowestFrom vs u v t o
  lowest_more at t h here None s = λ k a c d. ⊎_elim (λ l. here k a l d) (λ l. s k l c d) (cases_lt k at)
  lowest_more at t h here (Some m) s =
      (omega (arith, s.0), s.1, s.2, λ k a c d. ⊎_elim (λ l. here k a l d) (λ l. s.3 k l c d) (cases_lt k at))

  -- past one that is not
  pub walk_no : (w : Vertex S) (at t : ℕ) (found : Option ℕ) → 0 < at → slice_get vs (at - 1) ≡ Some w → (w ≡ v → ⊥) → Top p vs (at - 1) (p v) t → Walk p vs u (p v) v at found → Walk p vs u (p v) v t found
  walk_no w at t found h e apart q r =
      record {
        there = q.there;
        seen = lowest_more at t (omega (arith, q.below)) (passed w at t h e apart q) found r.seen;
      }

  -- at the end of the chain
  lowest_first : (o : Option ℕ) → LowestFrom vs u v 0 o → First (take u vs) v o
  lowest_first None s = λ n e.
      let h : 2 ≤ n = vertex_from_2 (take u vs) n v e in
      let q = nth_whole vs u (n - 2) v (sym (look_at (take u vs) n h) ∙ e) in
      s (n - 2) (omega arith) q.0 q.1
  lowest_first (Some m) s = (
    look_at (take u vs) m (omega (arith, s.0)) ∙ nth_part vs u (m - 2) v (omega (arith, s.0, s.1)) s.2,
    λ n l e.
        let h : 2 ≤ n = vertex_from_2 (take u vs) n v e in
        let q = nth_whole vs u (n - 2) v (sym (look_at (take u vs) n h) ∙ e) in
        s.3 (n - 2) (omega arith) (omega arith) q.1,
  )

  pub walk_all : (b t : ℕ) (o : Option ℕ) → t ≤ 0 → Walk p vs u b v t o → First (take u vs) v o
  walk_all b t o h w = let z : t ≡ 0 = omega arith in lowest_first o (let P : ℕ → Type 0 = λ a. LowestFrom vs u v a o in subst P z w.seen)

module _ {S : Type 0} (f : S → ℕ) (es : List (Entry S)) (hs : List ℕ) (u : ℕ) (v : Vertex S) (c : Chained f es hs u) where
  -- one step down
  pub walk_next : (at : ℕ) (e : Entry S) (o : Option ℕ) → 0 < at → at ≤ u → slice_get es (at - 1) ≡ Some e →
      Walk (bucket f (length hs)) (vertices_in es) u (bucket f (length hs) v) v at o →
      Top (bucket f (length hs)) (vertices_in es) (at - 1) (bucket f (length hs) v) (min e.next (at - 1))
  walk_next at e o h l q w =
      let t = c.nexts (at - 1) e (omega arith) q in
      let b : bucket f (length hs) e.vertex ≡ bucket f (length hs) v = w.there e.vertex h (nth_map vertex_of es (at - 1) e q) in
      let m : min e.next (at - 1) ≡ e.next = omega (arith, t.below) in
      rw (m, ← b) t

  pub walk_head : (b at : ℕ) → b ≡ bucket f (length hs) v → b < length hs → at ≡ min (get_or hs b 0) u →
      Walk (bucket f (length hs)) (vertices_in es) u (bucket f (length hs) v) v at None
  walk_head b at q l r =
      let t = c.heads b l in
      let m : at ≡ get_or hs b 0 = omega (arith, t.below) in
      let P : ℕ → Type 0 = λ d. Top (bucket f (length hs)) (vertices_in es) u d (get_or hs b 0) in
      rw m (walk_none (bucket f (length hs)) (vertices_in es) u v (get_or hs b 0) (subst P q t))
