-- The walk of `Visits` is laying down.
use Rattle.std.proofs.Common.{◌≡◌, ℕ, zero, suc, ◌+◌, ◌<◌, ◌≤◌, Bool, true, false, ◌⊎◌, ◌↔◌, List, [], ◌∷◌, ◌++◌, length, get_or, take, drop, sym, refl, ap, ◌∙◌, subst, ap₂, inl, inr, append_assoc, arith, length-append, take-append-drop, length-take-le, get_or-take, take-suc, take-take, take_at}
use native.Mathlib.Decide.{dec_lt}
use lib.Seq.{take-length}
use Rattle.symbols.specs.Order.{Order}
use Rattle.ledger.specs.Lists.{Codes, none, begun}
use Rattle.ledger.specs.declared.Vertex.{Vertex}
use Rattle.ledger.specs.Diagrams.{Good, Sound}
use Rattle.ledger.specs.Ledger.{listed, position, number, lay, list_in, lists, codes, vertices_of, Drawing, fresh}
use Rattle.ledger.specs.Visits.{Visits, passed, comes_to}
use Rattle.ledger.proofs.Canon.{Kind, is_0, is_1, is_vertex, kind}
use Rattle.ledger.proofs.Ends.{length_snoc, get_or_last}
use Rattle.ledger.proofs.Rows.{both_ways, Known, known_held, listed_get_or, position_front, position_below, number_list, lay_known, lay_new, lay_adds, lay_ledger, empty_row}
use Rattle.ledger.proofs.Drawn.{Pictured, pictured, lists_vertices_of, codes_proper}

module _ {S : Type 0} (before : S → S → Bool) (order : Order before) (vs : List (Vertex S)) (s : Sound before vs) where
  P : Pictured before order vs
  P = pictured before order vs s

  -- what stands among the first d is known there
  known_early : (d n : ℕ) → d ≤ length vs → n < suc (suc d) → Known before (take d (lists vs)) (codes vs n)
  known_early d zero l h = tt
  known_early d (suc zero) l h = tt
  known_early d (suc (suc j)) l h =
      let e : get_or (take d (lists vs)) j none ≡ get_or (lists vs) j none = get_or-take d (lists vs) j none (omega arith) in
      let long : length (take d (lists vs)) ≡ d = length-take-le d (lists vs) (omega (arith, P.long)) in
      subst (Known before (take d (lists vs))) e (known_held before order (take d (lists vs)) (get_or (take d (lists vs)) j none) (listed_get_or before order (take d (lists vs)) j none (omega arith)))

  -- what stands later is not
  new_late : (d n : ℕ) (a : S) (z o : Codes S) → d ≤ length vs → Good vs n → suc (suc d) ≤ n → codes vs n ≡ begun a z o → listed before (take d (lists vs)) (begun a z o) ≡ false
  new_late d n a z o l g h e = by (both_ways (listed before (take d (lists vs)) (begun a z o)))
    where
      by : (listed before (take d (lists vs)) (begun a z o) ≡ true) ⊎ (listed before (take d (lists vs)) (begun a z o) ≡ false) → listed before (take d (lists vs)) (begun a z o) ≡ false
      by (inr k) = k
      by (inl k) =
          let small : position before (take d (lists vs)) (begun a z o) < length (take d (lists vs)) = position_below before order (take d (lists vs)) (begun a z o) k in
          let long : length (take d (lists vs)) ≡ d = length-take-le d (lists vs) (omega (arith, P.long)) in
          let front : position before (take d (lists vs) ++ drop d (lists vs)) (begun a z o) ≡ position before (take d (lists vs)) (begun a z o) = position_front before order (take d (lists vs)) (drop d (lists vs)) (begun a z o) k in
          let whole : position before (lists vs) (begun a z o) ≡ position before (take d (lists vs)) (begun a z o) = ap (λ r. position before r (begun a z o)) (sym (take-append-drop d (lists vs))) ∙ front in
          let num : number before (lists vs) (begun a z o) ≡ n = ap (number before (lists vs)) (sym e) ∙ number_list before order P.ledger n (omega (arith, P.long)) in
          absurd (omega arith)

  record Walk (d n k : ℕ) : Type 0 where
    up : d ≤ k
    in_row : k ≤ length vs
    laid : lay before (take d (lists vs)) (codes vs n) ≡ take k (lists vs)

  -- a walk lays down
  walk_lays : {d n k : ℕ} → Visits vs d n k → d ≤ length vs → Good vs n → Walk d n k
  walk_lays {d} {n} {k} (passed h e) l g =
      record { up = omega arith; in_row = omega arith; laid = lay_known before order (take d (lists vs)) (codes vs n) (known_early d n l h) ∙ ap (λ x. take x (lists vs)) e }
  walk_lays {d} {n} {k} (comes_to v j i p h wz wo e f) l g =
      let lz = s.formed.zero_below n v p in
      let lo = s.formed.one_below n v p in
      let Z = walk_lays wz l (omega arith) in
      let O = walk_lays wo Z.in_row (omega arith) in
      step Z O
    where
      step : Walk d v.zero j → Walk j v.one i → Walk d n k
      step Z O =
          let is = P.unfolds n v p in
          let new = new_late d n v.label (codes vs v.zero) (codes vs v.one) l g h is in
          let lz : d ≤ j = Z.up in
          let lo : j ≤ i = O.up in
          let here : get_or (lists vs) i none ≡ codes vs n = ap (list_in (lists vs)) (sym e) in
          record {
            up = omega arith;
            in_row = omega arith;
            laid =
                ap (lay before (take d (lists vs))) is ∙
                lay_new before order (take d (lists vs)) v.label (codes vs v.zero) (codes vs v.one) new ∙
                ap₂ (λ r x. r ++ x ∷ []) (ap (λ r. lay before r (codes vs v.one)) Z.laid ∙ O.laid) (sym is ∙ sym here) ∙
                sym (take-suc (lists vs) i none (omega (arith, P.long))) ∙
                ap (λ x. take x (lists vs)) f;
          }

  -- a front of what stands there is as many of the first
  front_is : (front more : List (Codes S)) (k : ℕ) → k ≤ length (lists vs) → front ++ more ≡ take k (lists vs) → (length front ≤ k) × (front ≡ take (length front) (lists vs))
  front_is front more k l e =
      let long : length front + length more ≡ k = sym (length-append front more) ∙ ap length e ∙ length-take-le k (lists vs) l in
      let short : length front ≤ k = omega arith in
      (short, sym (take_at front more (length front) refl) ∙ ap (take (length front)) e ∙ take-take (length front) k (lists vs) short)

  -- and what lays down so is a walk
  lays_walk : (b n d k : ℕ) → n < b → Good vs n → d ≤ k → k ≤ length vs → lay before (take d (lists vs)) (codes vs n) ≡ take k (lists vs) → Visits vs d n k
  lays_walk zero n d k small g up l e = absurd (omega arith)
  lays_walk (suc b) n d k small g up l e = by (dec_lt n (suc (suc d))) (kind vs n g) (lays_walk b)
    where
      in_lists : k ≤ length (lists vs)
      in_lists = omega (arith, P.long)

      by : Dec (n < suc (suc d)) → Kind vs n → ((n d k : ℕ) → n < b → Good vs n → d ≤ k → k ≤ length vs → lay before (take d (lists vs)) (codes vs n) ≡ take k (lists vs) → Visits vs d n k) → Visits vs d n k
      by (yes h) kd below =
          let same = sym (lay_known before order (take d (lists vs)) (codes vs n) (known_early d n (omega arith) h)) ∙ e in
          passed h (sym (length-take-le d (lists vs) (omega (arith, in_lists))) ∙ ap length same ∙ length-take-le k (lists vs) in_lists)
      by (no h) (is_0 f) below = absurd (h (omega arith))
      by (no h) (is_1 f) below = absurd (h (omega arith))
      by (no h) (is_vertex v p) below =
          let lz = s.formed.zero_below n v p in
          let lo = s.formed.one_below n v p in
          let is = P.unfolds n v p in
          let zt = codes vs v.zero in
          let ot = codes vs v.one in
          let new = new_late d n v.label zt ot (omega arith) g (omega arith) is in
          let A = lay before (take d (lists vs)) zt in
          let B = lay before A ot in
          let all : B ++ begun v.label zt ot ∷ [] ≡ take k (lists vs) =
          sym (lay_new before order (take d (lists vs)) v.label zt ot new) ∙ ap (lay before (take d (lists vs))) (sym is) ∙ e in
          let fb = front_is B (begun v.label zt ot ∷ []) k in_lists all in
          let ma = lay_adds before order A ot in
          let fa = front_is A (ma.0 ++ begun v.label zt ot ∷ []) k in_lists (sym (append_assoc A ma.0 (begun v.label zt ot ∷ [])) ∙ ap (λ r. r ++ begun v.label zt ot ∷ []) (sym ma.1) ∙ all) in
          let md = lay_adds before order (take d (lists vs)) zt in
          let ld : length A ≡ length (take d (lists vs)) + length md.0 = ap length md.1 ∙ length-append (take d (lists vs)) md.0 in
          let td : length (take d (lists vs)) ≡ d = length-take-le d (lists vs) (omega (arith, in_lists)) in
          let la : length B ≡ length A + length ma.0 = ap length ma.1 ∙ length-append A ma.0 in
          let lk : suc (length B) ≡ k = sym (length_snoc B (begun v.label zt ot)) ∙ ap length all ∙ length-take-le k (lists vs) in_lists in
          let at : get_or (lists vs) (length B) none ≡ codes vs n =
          sym (get_or-take k (lists vs) (length B) none (omega arith)) ∙ ap (λ r. get_or r (length B) none) (sym all) ∙ get_or_last B (begun v.label zt ot) none ∙ sym is in
          let num : suc (suc (length B)) ≡ n =
          sym (number_list before order P.ledger (suc (suc (length B))) (omega (arith, in_lists))) ∙ ap (number before (lists vs)) at ∙ number_list before order P.ledger n (omega (arith, P.long)) in
          comes_to v (length A) (length B) p (omega arith)
          (below v.zero d (length A) (omega arith) (omega arith) (omega arith) (omega arith) fa.1)
          (below v.one (length A) (length B) (omega arith) (omega arith) (omega arith) (omega arith)
          (ap (λ r. lay before r ot) (sym fa.1) ∙ fb.1))
          (sym num) lk

  pub received : (root : ℕ) → Good vs root → Visits vs 0 root (length vs) ↔ (fresh before (codes vs root) ≡ record { drawn = vs; root = root })
  received root g = (there, back)
    where
      all_lists : take (length vs) (lists vs) ≡ lists vs
      all_lists = ap (λ x. take x (lists vs)) (sym P.long) ∙ take-length (lists vs)

      there : Visits vs 0 root (length vs) → fresh before (codes vs root) ≡ record { drawn = vs; root = root }
      there w =
          let r : lay before [] (codes vs root) ≡ lists vs = (walk_lays w (omega arith) g).laid ∙ all_lists in
          λ i. record {
            drawn = (ap (vertices_of before) r ∙ P.back) i;
            root = (ap (λ x. number before x (codes vs root)) r ∙ number_list before order P.ledger root (omega (arith, P.long))) i;
          }

      back : fresh before (codes vs root) ≡ record { drawn = vs; root = root } → Visits vs 0 root (length vs)
      back e =
          let L = lay_ledger before order [] (codes vs root) (empty_row refl) (codes_proper before order vs s root g) in
          let r : lay before [] (codes vs root) ≡ lists vs = sym (lists_vertices_of before order L) ∙ ap (λ (x : Drawing S). lists x.drawn) e in
          lays_walk (suc root) root 0 (length vs) (omega arith) g (omega arith) (omega arith) (r ∙ sym all_lists)
