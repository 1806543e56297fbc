-- Chains with a vertex more or less.
use Rattle.std.proofs.Common.{◌≡◌, ℕ, ◌+◌, ◌-◌, ◌<◌, ◌≤◌, List, length, get_or, set, replicate, Some, sym, refl, ap, ◌∙◌, subst, ⊎_elim, arith}
use Rattle.std.specs.List.{slice_get}
use Rattle.std.proofs.lemmas.List.{length-set, length-map, length-replicate, get_or-replicate, get_or_past, get_or-set_same, get_or-set_other, map-set}
use Rattle.std.proofs.lemmas.Bool.{cases_lt, cases_eq}
use Rattle.ledger.specs.declared.Vertex.{Vertex}
use Rattle.bucket_shelf.specs.declared.Entry.{Entry}
use Rattle.memory.specs.Buckets.{bucket}
use Rattle.bucket_shelf.specs.Chains.{vertex_of, vertices_in, Top, Chained}
use Rattle.bucket_shelf.proofs.Indices.{nth_map, nth_set_other, nth_set_same}

module _ {S : Type 0} (p : Vertex S → ℕ) where
  -- the vertices below u are the same
  top_same : (vs ws : List (Vertex S)) (u j b t : ℕ) → j ≤ u → ((k : ℕ) → k < u → slice_get ws k ≡ slice_get vs k) → Top p vs j b t → Top p ws j b t
  top_same vs ws u j b t h s q =
      record {
        below = q.below;
        above = λ k w l e. q.above k w l (sym (s k (omega arith)) ∙ e);
        there = λ w l e. q.there w l (sym (s (t - 1) (omega (arith, q.below))) ∙ e);
      }

  -- the vertex at u is in the bucket, or in another
  top_more_here : (ws : List (Vertex S)) (u b : ℕ) (v : Vertex S) → slice_get ws u ≡ Some v → p v ≡ b → Top p ws (u + 1) b (u + 1)
  top_more_here ws u b v last q =
      record {
        below = omega arith;
        above = λ k w l e r. l;
        there = λ w l e.
            let z : u + 1 - 1 ≡ u = omega arith in
            let e2 : slice_get ws u ≡ Some w = rw z at e in
            let x : w ≡ v = cc in
            rw x q;
      }

  top_more_apart : (vs ws : List (Vertex S)) (u b t : ℕ) (v : Vertex S) → ((k : ℕ) → k < u → slice_get ws k ≡ slice_get vs k) → slice_get ws u ≡ Some v → (p v ≡ b → ⊥) → Top p vs u b t → Top p ws (u + 1) b t
  top_more_apart vs ws u b t v same last apart q =
      record {
        below = omega (arith, q.below);
        above = λ k w l e r.
            ⊎_elim (λ i. q.above k w i (sym (same k i) ∙ e) r)
            (λ i. let ku : k ≡ u = omega arith in let e2 : slice_get ws u ≡ Some w = rw ku at e in let x : w ≡ v = cc in absurd (apart (rw x at r)))
            (cases_lt k u);
        there = λ w l e. q.there w l (sym (same (t - 1) (omega (arith, q.below))) ∙ e);
      }

  -- without the vertex at u, which is in another bucket
  top_less_apart : (vs : List (Vertex S)) (u b t : ℕ) (v : Vertex S) → slice_get vs u ≡ Some v → (p v ≡ b → ⊥) → Top p vs (u + 1) b t → Top p vs u b t
  top_less_apart vs u b t v last apart q =
      record {
        below =
            ⊎_elim (λ i. let tu : t - 1 ≡ u = omega (arith, q.below) in absurd (apart (q.there v (omega arith) (rw tu last))))
            (λ i. i)
            (cases_lt u t);
        above = λ k w l. q.above k w (omega arith);
        there = q.there;
      }

module _ {S : Type 0} (f : S → ℕ) where
  -- the same chains, by the number of heads and the vertices
  chained_from : (es : List (Entry S)) (hs : List ℕ) (u n : ℕ) (vs : List (Vertex S)) → n ≡ length hs → vs ≡ vertices_in es →
      ((b : ℕ) → b < n → Top (bucket f n) vs u b (get_or hs b 0)) →
      ((j : ℕ) (e : Entry S) → j < u → slice_get es j ≡ Some e → Top (bucket f n) vs j (bucket f n e.vertex) e.next) → Chained f es hs u
  chained_from es hs u n vs p q h x =
      record {
        heads = λ b l. rw (← p, ← q) (h b (omega arith));
        nexts = λ j e l r. rw (← p, ← q) (x j e l r);
      }

  -- no vertex and no head: chains of nothing
  pub chained_none : (es : List (Entry S)) (hs : List ℕ) → ((b : ℕ) → get_or hs b 0 ≡ 0) → Chained f es hs 0
  chained_none es hs h =
      record {
        heads = λ b l. record { below = omega (arith, h b); above = λ k w i. absurd (omega arith); there = λ w i. absurd (omega (arith, h b)) };
        nexts = λ j e l. absurd (omega arith);
      }

  -- the same of heads that are all 0
  pub chained_zeros : (es : List (Entry S)) (n : ℕ) → Chained f es (replicate n 0) 0
  chained_zeros es n =
      chained_none es (replicate n 0)
      (λ b. ⊎_elim (λ l. get_or-replicate n b 0 0 l) (λ l. get_or_past (replicate n 0) b 0 (omega (arith, length-replicate {A = ℕ} n 0))) (cases_lt b n))

  -- a vertex more, at the top of its chain
  pub chained_link : (es : List (Entry S)) (hs : List ℕ) (u b : ℕ) (e : Entry S) → e.next ≡ get_or hs b 0 → u < length es → b ≡ bucket f (length hs) e.vertex → b < length hs →
      Chained f es hs u → Chained f (set es u e) (set hs b (u + 1)) (u + 1)
  chained_link es hs u b e q l r m c =
      let n = length hs in
      let v = e.vertex in
      let vs = vertices_in es in
      let ws = set (vertices_in es) u v in
      let long : n ≡ length (set hs b (u + 1)) = sym (length-set hs b (u + 1)) in
      let all : ws ≡ vertices_in (set es u e) = sym (map-set vertex_of es u e) in
      let same : (k : ℕ) → k < u → slice_get ws k ≡ slice_get vs k = λ k h. nth_set_other vs u k v (omega arith) in
      let last : slice_get ws u ≡ Some v = nth_set_same vs u v (omega (arith, length-map es vertex_of)) in
      chained_from (set es u e) (set hs b (u + 1)) (u + 1) n ws long all
      (λ d h.
      ⊎_elim
      (λ i. let o : get_or (set hs b (u + 1)) d 0 ≡ u + 1 = rw i (get_or-set_same hs b (u + 1) 0 m) in rw o (top_more_here (bucket f n) ws u d v last (sym r ∙ sym i)))
      (λ i. let o : get_or (set hs b (u + 1)) d 0 ≡ get_or hs d 0 = get_or-set_other hs b d (u + 1) 0 i in rw o (top_more_apart (bucket f n) vs ws u d (get_or hs d 0) v same last (λ z. i (sym z ∙ sym r)) (c.heads d h)))
      (cases_eq d b))
      (λ j x h k.
      ⊎_elim
      (λ i. let z : slice_get es j ≡ Some x = sym (nth_set_other es u j e (omega arith)) ∙ k in top_same (bucket f n) vs ws u j _ _ (omega arith) same (c.nexts j x i z))
      (λ i.
      let ju : j ≡ u = omega arith in
      let k2 : slice_get (set es u e) u ≡ Some x = rw ju at k in
      let ex : e ≡ x = let w = nth_set_same es u e l in cc in
      let nx : x.next ≡ get_or hs b 0 = ap (λ y. y.next) (sym ex) ∙ q in
      let vx : x.vertex ≡ v = ap (λ y. y.vertex) (sym ex) in
      rw (ju, nx, vx, ← r) (top_same (bucket f n) vs ws u u b (get_or hs b 0) (omega arith) same (c.heads b m)))
      (cases_lt j u))

  -- a vertex less: the last, which is at the top of its chain
  pub chained_unlink : (es : List (Entry S)) (hs : List ℕ) (u b : ℕ) (e : Entry S) → slice_get es u ≡ Some e → b ≡ bucket f (length hs) e.vertex → b < length hs →
      Chained f es hs (u + 1) → Chained f es (set hs b e.next) u
  chained_unlink es hs u b e at r m c =
      let n = length hs in
      let vs = vertices_in es in
      let last : slice_get vs u ≡ Some e.vertex = nth_map vertex_of es u e at in
      chained_from es (set hs b e.next) u n vs (sym (length-set hs b e.next)) refl
      (λ d h.
      ⊎_elim
      (λ i.
      let o : get_or (set hs b e.next) d 0 ≡ e.next = rw i (get_or-set_same hs b e.next 0 m) in
      let last_first : u < u + 1 = omega arith in
      let P : ℕ → Type 0 = λ x. Top (bucket f n) vs u x e.next in
      rw o (subst P (sym (i ∙ r)) (c.nexts u e last_first at)))
      (λ i. let o : get_or (set hs b e.next) d 0 ≡ get_or hs d 0 = get_or-set_other hs b d e.next 0 i in rw o (top_less_apart (bucket f n) vs u d (get_or hs d 0) e.vertex last (λ z. i (sym z ∙ sym r)) (c.heads d h)))
      (cases_eq d b))
      (λ j x h k. c.nexts j x (omega arith) k)
