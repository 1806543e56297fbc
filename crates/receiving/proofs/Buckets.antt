-- Buckets of records: what a walk down a bucket has seen, and one record more.
use Rattle.std.proofs.Common.{◌≡◌, ℕ, zero, suc, ◌+◌, ◌<◌, ◌≤◌, min, eqb, ◌⊎◌, List, length, get_or, Some, sym, refl, ap, ◌∙◌, inl, inr, arith}
use mathlib.Core.Path.{subst⁻¹}
use Rattle.std.specs.List.{slice_get}
use Rattle.std.proofs.lemmas.Bool.{cases_eq, eq-eqb, ne_eqb, cond-true, cond-false}
use Rattle.ledger.specs.declared.Vertex.{Vertex}
use Rattle.ledger.specs.Diagrams.{Different}
use Rattle.ledger.proofs.Canon.{vertex_good}
use Rattle.ledger.proofs.Reading.{none_some}
use Rattle.memory.specs.declared.work.Place.{Place}
use Rattle.memory.specs.Buckets.{bucket}
use Rattle.receiving.specs.Tables.{latest, bucket_in, bucket_at, Table, FirstApart, PutInFront}
use Rattle.receiving.specs.Walks.{vacant}

module _ (f : ℕ → ℕ) where
  latest_here : (k b : ℕ) → f k ≡ b → latest f (suc k) b ≡ suc k
  unfolding latest
  latest_here k b e = cond-true (eqb (f k) b) (suc k) (latest f k b) (eq-eqb (f k) b e)

  latest_past : (k b : ℕ) → (f k ≡ b → ⊥) → latest f (suc k) b ≡ latest f k b
  unfolding latest
  latest_past k b e = cond-false (eqb (f k) b) (suc k) (latest f k b) (ne_eqb (f k) b e)

  latest_none : (b : ℕ) → latest f 0 b ≡ 0
  unfolding latest
  latest_none b = refl

  latest_low : (k b : ℕ) → latest f k b ≤ k
  latest_low zero b = let e = latest_none b in omega arith
  latest_low (suc k) b = let h = latest_low k b in grind (arith, latest_here, latest_past)

  -- none from the last on
  latest_skips : (k b j : ℕ) → latest f k b ≤ j → j < k → f j ≡ b → ⊥
  latest_skips zero b j l h e = absurd (omega arith)
  latest_skips (suc k) b j l h e = let below = latest_skips k b j in grind (arith, latest_here, latest_past)

  -- the last is in the bucket
  latest_hits : (k b j : ℕ) → latest f k b ≡ suc j → f j ≡ b
  latest_hits zero b j h = absurd (let e = latest_none b in omega arith)
  latest_hits (suc k) b j h = let below = latest_hits k b j in grind (arith, latest_here, latest_past)

module _ {S : Type 0} (scatter : S → ℕ) (ds : List (Vertex S)) (count k : ℕ) (vertex : Vertex S) where
  -- a walk down the vertex's bucket: it is none of the records from `link` on
  pub record Searching (link : ℕ) : Type 0 where
    pub top : (j : ℕ) → link ≡ suc j → bucket_at scatter count ds j ≡ bucket scatter count vertex
    pub none_yet : (j : ℕ) → link ≤ j → j < k → slice_get ds j ≡ Some vertex → ⊥

  its_bucket : (j : ℕ) → slice_get ds j ≡ Some vertex → bucket_at scatter count ds j ≡ bucket scatter count vertex
  its_bucket j e = ap (bucket_in scatter count) e

  pub search_begins : (work : List Place) (b head link : ℕ) → Table scatter ds count k work → b ≡ bucket scatter count vertex → b < count → head ≡ (get_or work b vacant).list → link ≡ min head k → Searching link
  search_begins work b head link T e h p q =
      let f = bucket_at scatter count ds in
      let is : head ≡ latest f k b = p ∙ T.heads b h in
      let low = latest_low f k b in
      let l : link ≡ latest f k b = omega arith in
      record {
        top = λ j s. latest_hits f k b j (sym l ∙ s) ∙ e;
        none_yet = λ j m n r. latest_skips f k b j (omega arith) n (its_bucket j r ∙ sym e);
      }

  pub search_next : (work : List Place) (link i next after : ℕ) → link ≡ suc i → Table scatter ds count k work → Searching link → link ≤ k → (slice_get ds i ≡ Some vertex → ⊥) → next ≡ (get_or work i vacant).other → after ≡ min next i → Searching after
  search_next work link i next after here T s low other p q =
      let f = bucket_at scatter count ds in
      let b = bucket scatter count vertex in
      let is : next ≡ latest f i b = p ∙ T.nexts i (omega arith) ∙ ap (latest f i) (s.top i here) in
      let l : latest f i b ≤ i = latest_low f i b in
      let a : after ≡ latest f i b = omega arith in
      record {
        top = λ j h. latest_hits f i b j (sym a ∙ h);
        none_yet = λ j m n r. let skips = latest_skips f i b j in let its = its_bucket j r in let later = s.none_yet j in grind arith;
      }

module _ {S : Type 0} (scatter : S → ℕ) (ds : List (Vertex S)) (count : ℕ) where
  pub table_none : (work : List Place) → ((b : ℕ) → b < count → (get_or work b vacant).list ≡ 0) → Table scatter ds count 0 work
  table_none work empty = record { heads = λ b h. empty b h ∙ sym (latest_none (bucket_at scatter count ds) b); nexts = λ j h. absurd (omega arith) }

  pub table_more : (k b : ℕ) (v : Vertex S) (work after : List Place) → slice_get ds k ≡ Some v → b ≡ bucket scatter count v → b < count → Table scatter ds count k work → PutInFront work b k after → Table scatter ds count (k + 1) after
  table_more k b v work after at e h T p =
      let q : k + 1 ≡ suc k = omega arith in
      subst⁻¹ (λ m. Table scatter ds count m after) q (record { heads = λ a l. head a l (cases_eq a b); nexts = λ j l. next j l (cases_eq j k) })
    where
      here : bucket_at scatter count ds k ≡ b
      here = ap (bucket_in scatter count) at ∙ sym e

      head : (a : ℕ) → a < count → (a ≡ b) ⊎ (a ≡ b → ⊥) → (get_or after a vacant).list ≡ latest (bucket_at scatter count ds) (suc k) a
      head a l (inl s) =
          let m = latest_here (bucket_at scatter count ds) k a (here ∙ sym s) in
          ap (λ x. (get_or after x vacant).list) s ∙ p.head_new ∙ (let q : k + 1 ≡ suc k = omega arith in q) ∙ sym m
      head a l (inr s) = p.heads_old a s ∙ T.heads a l ∙ sym (latest_past (bucket_at scatter count ds) k a (λ r. s (sym r ∙ here)))

      next : (j : ℕ) → j < suc k → (j ≡ k) ⊎ (j ≡ k → ⊥) → (get_or after j vacant).other ≡ latest (bucket_at scatter count ds) j (bucket_at scatter count ds j)
      next j l (inl s) =
          subst⁻¹ (λ x. (get_or after x vacant).other ≡ latest (bucket_at scatter count ds) x (bucket_at scatter count ds x)) s
          (p.next_new ∙ T.heads b h ∙ ap (latest (bucket_at scatter count ds) k) (sym here))
      next j l (inr s) = p.nexts_old j s ∙ T.nexts j (omega arith)

module _ {S : Type 0} (ds : List (Vertex S)) where
  pub apart_none : FirstApart ds 0
  apart_none i j v h l p q = absurd (omega arith)

  pub apart_more : (k : ℕ) (v : Vertex S) → slice_get ds k ≡ Some v → ((j : ℕ) × (j < k) × (slice_get ds j ≡ Some v) → ⊥) → FirstApart ds k → FirstApart ds (k + 1)
  apart_more k v at new below i j w h l p q = grind arith

  pub different_all : (k : ℕ) → length ds ≤ k → FirstApart ds k → Different ds
  different_all k h below zero n v p q = absurd (none_some refl p)
  different_all k h below (suc zero) n v p q = absurd (none_some refl p)
  different_all k h below (suc (suc i)) zero v p q = absurd (none_some refl q)
  different_all k h below (suc (suc i)) (suc zero) v p q = absurd (none_some refl q)
  different_all k h below (suc (suc i)) (suc (suc j)) v p q =
      let a = vertex_good ds (suc (suc i)) v p in
      let b = vertex_good ds (suc (suc j)) v q in
      ap (λ m. suc (suc m)) (below i j v (omega arith) (omega arith) p q)

  pub not_different : (k : ℕ) (v : Vertex S) → slice_get ds k ≡ Some v → (j : ℕ) × (j < k) × (slice_get ds j ≡ Some v) → Different ds → ⊥
  not_different k v at s d = let e = d (suc (suc k)) (suc (suc s.0)) v at s.2 in let l = s.1 in omega arith
