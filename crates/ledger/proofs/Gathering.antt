-- The vertices of a ledger are sound, and keeping marked vertices keeps the marked lists.
use Rattle.std.proofs.Common.{◌≡◌, ℕ, zero, suc, ◌+◌, ◌<◌, ◌≤◌, Bool, true, false, ◌≢◌, ◌⊎◌, List, [], ◌∷◌, ◌++◌, map, length, get_or, Some, sym, refl, ap, ◌∙◌, subst, ap₂, inl, inr, append-nil, arith}
use mathlib.Core.Path.{subst⁻¹}
use mathlib.Core.List.{map-append}
use Rattle.std.specs.List.{slice_get}
use Rattle.symbols.specs.Order.{Order}
use Rattle.ledger.specs.Lists.{Codes, none, begun, Comes, SomeCode, same}
use Rattle.ledger.specs.declared.Vertex.{Vertex}
use Rattle.ledger.specs.Diagrams.{look, Good, Sound, SameCodes}
use Rattle.ledger.specs.Ledger.{listed, position, number, list_in, lists, codes, vertices_of}
use Rattle.ledger.specs.Gather.{keep, marked_before, renumber, renumbered, gather, Marked, Whole}
use Rattle.ledger.proofs.Reading.{true_false, none_some}
use Rattle.ledger.proofs.Canon.{Kind, is_0, is_1, is_vertex, kind, vertex_good}
use Rattle.ledger.proofs.Ends.{by_ends, nth_last, length_snoc, get_or_last, get_or_front}
use Rattle.ledger.proofs.Rows.{both_ways, Known, Ledger, empty_row, one_more, known_list, number_good, number_list, list_number, listed_get_or}
use Rattle.ledger.proofs.Drawn.{Pictured, pictured, vertices_of_more, lists_vertices_of, lists_more, not_there, comes, some_code, sound_front, look_front, codes_proper}
use Rattle.ledger.proofs.Draws.{same_lists}
use Rattle.ledger.proofs.Laying.{sound_more}

module _ {S : Type 0} (before : S → S → Bool) (order : Order before) where
  none_there : (n : ℕ) (v : Vertex S) → look [] n ≡ Some v → ⊥
  none_there zero v e = none_some refl e
  none_there (suc zero) v e = none_some refl e
  none_there (suc (suc k)) v e = none_some refl e

  pub sound_empty : Sound before []
  sound_empty =
      record {
        formed =
            record {
              zero_below = λ n v e. absurd (none_there n v e);
              one_below = λ n v e. absurd (none_there n v e);
              one_not_0 = λ n v e. absurd (none_there n v e);
              later = λ n v w e f. absurd (none_there n v e);
            };
        different = λ m n v e f. absurd (none_there m v e);
      }

  pub ledger_sound : {row : List (Codes S)} → Ledger before row → Sound before (vertices_of before row)
  ledger_sound (empty_row e) = rw e sound_empty
  ledger_sound (one_more front a z o e L kz ko p new) = rw (e, vertices_of_more before order front a z o L kz ko) (step (ledger_sound L))
    where
      v : Vertex S
      v = record { label = a; zero = number before front z; one = number before front o }

      step : Sound before (vertices_of before front) → Sound before (vertices_of before front ++ record { label = a; zero = number before front z; one = number before front o } ∷ [])
      step s =
          sound_more before order (vertices_of before front) s (record { label = a; zero = number before front z; one = number before front o })
          (omega (arith, number_good before order front z kz, long)) (omega (arith, number_good before order front o ko, long)) one_not comes not_found
        where
          P : Pictured before order (vertices_of before front)
          P = pictured before order (vertices_of before front) s

          back : lists (vertices_of before front) ≡ front
          back = lists_vertices_of before order L

          long : length front ≡ length (vertices_of before front)
          long = ap length (sym back) ∙ P.long

          codes_of : (t : Codes S) → Known before front t → codes (vertices_of before front) (number before front t) ≡ t
          codes_of t k = ap (λ r. list_in r (number before front t)) back ∙ list_number before order front t k

          one_not : number before front o ≢ 0
          one_not f = subst SomeCode (sym (codes_of o ko) ∙ ap (codes (vertices_of before front)) f) p.1

          comes : (w : Vertex S) → look (vertices_of before front) (number before front z) ≡ Some w → before a w.label ≡ true
          comes w f = subst (Comes before a) (sym (codes_of z kz) ∙ P.unfolds (number before front z) w f) p.0

          not_found : (n : ℕ) → look (vertices_of before front) n ≡ Some (record { label = a; zero = number before front z; one = number before front o }) → ⊥
          not_found n f =
              let is : codes (vertices_of before front) n ≡ begun a z o = P.unfolds n _ f ∙ ap₂ (begun a) (codes_of z kz) (codes_of o ko) in
              let g : Good (vertices_of before front) n = vertex_good (vertices_of before front) n _ f in
              let k : Known before (lists (vertices_of before front)) (begun a z o) = subst (Known before (lists (vertices_of before front))) is (known_list before order (lists (vertices_of before front)) n (omega (arith, P.long))) in
              true_false (subst (λ r. listed before r (begun a z o) ≡ true) back k) new

-- lists and marks of one length
module _ {A : Type 0} where
  keep_append : (ms ns : List Bool) (xs ys : List A) → length ms ≡ length xs → keep (ms ++ ns) (xs ++ ys) ≡ keep ms xs ++ keep ns ys
  keep_append [] ns [] ys l = refl
  keep_append [] ns (x ∷ xs) ys l = absurd (omega arith)
  keep_append (m ∷ ms) ns [] ys l = absurd (omega arith)
  keep_append (true ∷ ms) ns (x ∷ xs) ys l = ap (λ r. x ∷ r) (keep_append ms ns xs ys (omega arith))
  keep_append (false ∷ ms) ns (x ∷ xs) ys l = keep_append ms ns xs ys (omega arith)

  map_kept : {B : Type 0} (f g : A → B) (ms : List Bool) (xs : List A) → ((k : ℕ) (x : A) → slice_get xs k ≡ Some x → f x ≡ g x) → map f (keep ms xs) ≡ map g (keep ms xs)
  map_kept f g [] xs h = refl
  map_kept f g (m ∷ ms) [] h = refl
  map_kept f g (true ∷ ms) (x ∷ xs) h = ap₂ (λ y ys. y ∷ ys) (h 0 x refl) (map_kept f g ms xs (λ k y e. h (suc k) y e))
  map_kept f g (false ∷ ms) (x ∷ xs) h = map_kept f g ms xs (λ k y e. h (suc k) y e)

last_mark : (ms : List Bool) (n : ℕ) → length ms ≡ suc n → (front : List Bool) × (b : Bool) × (ms ≡ front ++ b ∷ []) × (length front ≡ n)
last_mark [] n l = absurd (omega arith)
last_mark (m ∷ []) n l = ([], m, refl, omega arith)
last_mark (m ∷ k ∷ ms) zero l = absurd (omega arith)
last_mark (m ∷ k ∷ ms) (suc n) l =
    let r = last_mark (k ∷ ms) n (omega arith) in
    (m ∷ r.0, r.1, ap (λ x. m ∷ x) r.2, ap suc r.3)

before_front : (ms more : List Bool) (k : ℕ) → k < length ms → marked_before (ms ++ more) k ≡ marked_before ms k
before_front [] more k h = absurd (omega arith)
before_front (true ∷ ms) more zero h = refl
before_front (false ∷ ms) more zero h = refl
before_front (true ∷ ms) more (suc k) h = ap suc (before_front ms more k (omega arith))
before_front (false ∷ ms) more (suc k) h = before_front ms more k (omega arith)

renumber_front : (ms more : List Bool) (n : ℕ) → n ≤ length ms + 1 → renumber (ms ++ more) n ≡ renumber ms n
renumber_front ms more zero h = refl
renumber_front ms more (suc zero) h = refl
renumber_front ms more (suc (suc k)) h = ap (λ x. suc (suc x)) (before_front ms more k (omega arith))

marked_front : (ms more : List Bool) (n : ℕ) → n ≤ length ms + 1 → Marked ms n → Marked (ms ++ more) n
marked_front ms more zero h m = tt
marked_front ms more (suc zero) h m = tt
marked_front ms more (suc (suc k)) h m = get_or_front ms more k false (omega arith) ∙ m

marked_back : (ms more : List Bool) (n : ℕ) → n ≤ length ms + 1 → Marked (ms ++ more) n → Marked ms n
marked_back ms more zero h m = tt
marked_back ms more (suc zero) h m = tt
marked_back ms more (suc (suc k)) h m = sym (get_or_front ms more k false (omega arith)) ∙ m

module _ {S : Type 0} (before : S → S → Bool) (order : Order before) where
  -- a marked list is kept, as far on as marks come before it
  listed_kept : (ms : List Bool) (row : List (Codes S)) (t : Codes S) → listed before row t ≡ true → get_or ms (position before row t) false ≡ true → listed before (keep ms row) t ≡ true
  listed_kept ms [] t h m = absurd (true_false h refl)
  listed_kept [] (x ∷ row) t h m = absurd (true_false m refl)
  listed_kept (b ∷ ms) (x ∷ row) t h m = by b (both_ways (same before x t)) m (listed_kept ms row t)
    where
      by : (b : Bool) → (same before x t ≡ true) ⊎ (same before x t ≡ false) → get_or (b ∷ ms) (position before (x ∷ row) t) false ≡ true →
          (listed before row t ≡ true → get_or ms (position before row t) false ≡ true → listed before (keep ms row) t ≡ true) → listed before (keep (b ∷ ms) (x ∷ row)) t ≡ true
      by true (inl e) m below = rw e
      by true (inr e) m below = rw e (below (rw e at h) (rw e at m))
      by false (inl e) m below = absurd (true_false (rw e at m) refl)
      by false (inr e) m below = below (rw e at h) (rw e at m)

  position_kept : (ms : List Bool) (row : List (Codes S)) (t : Codes S) → listed before row t ≡ true → get_or ms (position before row t) false ≡ true →
      position before (keep ms row) t ≡ marked_before ms (position before row t)
  position_kept ms [] t h m = absurd (true_false h refl)
  position_kept [] (x ∷ row) t h m = absurd (true_false m refl)
  position_kept (b ∷ ms) (x ∷ row) t h m = by b (both_ways (same before x t)) m (position_kept ms row t)
    where
      by : (b : Bool) → (same before x t ≡ true) ⊎ (same before x t ≡ false) → get_or (b ∷ ms) (position before (x ∷ row) t) false ≡ true →
          (listed before row t ≡ true → get_or ms (position before row t) false ≡ true → position before (keep ms row) t ≡ marked_before ms (position before row t)) →
          position before (keep (b ∷ ms) (x ∷ row)) t ≡ marked_before (b ∷ ms) (position before (x ∷ row) t)
      by true (inl e) m below = rw e
      by true (inr e) m below = rw e (ap suc (below (rw e at h) (rw e at m)))
      by false (inl e) m below = absurd (true_false (rw e at m) refl)
      by false (inr e) m below = rw e (below (rw e at h) (rw e at m))

  pub kept_held : (ms : List Bool) (row : List (Codes S)) (t : Codes S) → listed before (keep ms row) t ≡ true → listed before row t ≡ true
  kept_held [] row t h = absurd (true_false h refl)
  kept_held (b ∷ ms) [] t h = absurd (true_false h refl)
  kept_held (b ∷ ms) (x ∷ row) t h = by b (both_ways (same before x t)) h (kept_held ms row t)
    where
      by : (b : Bool) → (same before x t ≡ true) ⊎ (same before x t ≡ false) → listed before (keep (b ∷ ms) (x ∷ row)) t ≡ true →
          (listed before (keep ms row) t ≡ true → listed before row t ≡ true) → listed before (x ∷ row) t ≡ true
      by b (inl e) h below = rw e
      by true (inr e) h below = rw e (below (rw e at h))
      by false (inr e) h below = rw e (below h)

  module _ (vs : List (Vertex S)) (s : Sound before vs) (ms : List Bool) where
    -- what is kept of a marked number
    kept_known : (n : ℕ) → Good vs n → Marked ms n → Known before (keep ms (lists vs)) (codes vs n) × (number before (keep ms (lists vs)) (codes vs n) ≡ renumber ms n)
    kept_known n g m = by (kind vs n g)
      where
        P : Pictured before order vs
        P = pictured before order vs s

        Result : ℕ → Type 0
        Result n = Known before (keep ms (lists vs)) (codes vs n) × (number before (keep ms (lists vs)) (codes vs n) ≡ renumber ms n)

        at_vertex : (n : ℕ) (a : S) (z o : Codes S) → Marked ms n → Good vs n → codes vs n ≡ begun a z o → Result n
        at_vertex zero a z o m g e = (tt, refl)
        at_vertex (suc zero) a z o m g e = (tt, refl)
        at_vertex (suc (suc k)) a z o m g e =
            let small : k < length (lists vs) = omega (arith, P.long) in
            let held : listed before (lists vs) (begun a z o) ≡ true = subst (λ t. listed before (lists vs) t ≡ true) e (listed_get_or before order (lists vs) k none small) in
            let num : number before (lists vs) (begun a z o) ≡ suc (suc k) = ap (number before (lists vs)) (sym e) ∙ number_list before order P.ledger (suc (suc k)) (omega arith) in
            let pos : position before (lists vs) (begun a z o) ≡ k = omega arith in
            let mark : get_or ms (position before (lists vs) (begun a z o)) false ≡ true = rw pos m in (
              subst⁻¹ (Known before (keep ms (lists vs))) e (listed_kept ms (lists vs) (begun a z o) held mark),
              ap (number before (keep ms (lists vs))) e ∙ ap (λ x. suc (suc x)) (position_kept ms (lists vs) (begun a z o) held mark ∙ ap (marked_before ms) pos),
            )

        by : Kind vs n → Result n
        by (is_0 e) = rw e (tt, refl)
        by (is_1 e) = rw e (tt, refl)
        by (is_vertex v p) = at_vertex n v.label _ _ m g (P.unfolds n v p)

  record Kept (vs : List (Vertex S)) (ms : List Bool) : Type 0 where
    ledger : Ledger before (keep ms (lists vs))
    drawn : vertices_of before (keep ms (lists vs)) ≡ gather ms vs

  -- one more vertex, marked or not
  module _ (vs : List (Vertex S)) (v : Vertex S) (s : Sound before (vs ++ v ∷ [])) (ms : List Bool) (l : length ms ≡ length vs) (K : Kept vs ms) where
    front : Sound before vs
    front = sound_front before order vs (v ∷ []) s

    P : Pictured before order vs
    P = pictured before order vs front

    at_end : look (vs ++ v ∷ []) (suc (suc (length vs))) ≡ Some v
    at_end = nth_last vs v

    zero_good : Good vs v.zero
    zero_good = let h = s.formed.zero_below (suc (suc (length vs))) v at_end in omega arith

    one_good : Good vs v.one
    one_good = let h = s.formed.one_below (suc (suc (length vs))) v at_end in omega arith

    old_same : (b : Bool) → map (renumbered (ms ++ b ∷ [])) (keep ms vs) ≡ map (renumbered ms) (keep ms vs)
    old_same b =
        map_kept (renumbered (ms ++ b ∷ [])) (renumbered ms) ms vs
        (λ k w e.
        let z = front.formed.zero_below (suc (suc k)) w e in
        let o = front.formed.one_below (suc (suc k)) w e in
        let g : Good vs (suc (suc k)) = vertex_good vs (suc (suc k)) w e in
        λ i. record {
          label = w.label;
          zero = renumber_front ms (b ∷ []) w.zero (omega arith) i;
          one = renumber_front ms (b ∷ []) w.one (omega arith) i;
        })

    rows_split : (b : Bool) → keep (ms ++ b ∷ []) (lists (vs ++ v ∷ [])) ≡ keep ms (lists vs) ++ keep (b ∷ []) (begun v.label (codes vs v.zero) (codes vs v.one) ∷ [])
    rows_split b =
        ap (keep (ms ++ b ∷ [])) (lists_more before order vs v s P) ∙
        keep_append ms (b ∷ []) (lists vs) (begun v.label (codes vs v.zero) (codes vs v.one) ∷ []) (l ∙ sym P.long)

    vertices_of_split : (b : Bool) → gather (ms ++ b ∷ []) (vs ++ v ∷ []) ≡ gather ms vs ++ map (renumbered (ms ++ b ∷ [])) (keep (b ∷ []) (v ∷ []))
    vertices_of_split b =
        ap (map (renumbered (ms ++ b ∷ []))) (keep_append ms (b ∷ []) vs (v ∷ []) l) ∙
        map-append (renumbered (ms ++ b ∷ [])) (keep ms vs) (keep (b ∷ []) (v ∷ [])) ∙
        ap (λ r. r ++ map (renumbered (ms ++ b ∷ [])) (keep (b ∷ []) (v ∷ []))) (old_same b)

    kept_out : Kept (vs ++ v ∷ []) (ms ++ false ∷ [])
    kept_out =
        let e : keep (ms ++ false ∷ []) (lists (vs ++ v ∷ [])) ≡ keep ms (lists vs) = rows_split false ∙ append-nil (keep ms (lists vs)) in
        record {
          ledger = subst⁻¹ (Ledger before) e K.ledger;
          drawn = ap (vertices_of before) e ∙ K.drawn ∙ sym (vertices_of_split false ∙ append-nil (gather ms vs));
        }

    kept_in : Marked ms v.zero → Marked ms v.one → Kept (vs ++ v ∷ []) (ms ++ true ∷ [])
    kept_in mz mo =
        record {
          ledger =
              one_more (keep ms (lists vs)) v.label (codes vs v.zero) (codes vs v.one) (rows_split true) K.ledger kz.0 ko.0
              (comes before order vs v s P, some_code before order vs v s P, codes_proper before order vs front v.zero zero_good, codes_proper before order vs front v.one one_good)
              (away (both_ways _));
          drawn =
              ap (vertices_of before) (rows_split true) ∙
              vertices_of_more before order (keep ms (lists vs)) v.label (codes vs v.zero) (codes vs v.one) K.ledger kz.0 ko.0 ∙
              ap₂ (λ xs (x : Vertex S). xs ++ x ∷ []) K.drawn
              (λ i. record {
                label = v.label;
                zero = (kz.1 ∙ sym (renumber_front ms (true ∷ []) v.zero (omega (arith, zero_good)))) i;
                one = (ko.1 ∙ sym (renumber_front ms (true ∷ []) v.one (omega (arith, one_good)))) i;
              }) ∙
              sym (vertices_of_split true);
        }
      where
        kz : Known before (keep ms (lists vs)) (codes vs v.zero) × (number before (keep ms (lists vs)) (codes vs v.zero) ≡ renumber ms v.zero)
        kz = kept_known vs front ms v.zero zero_good mz

        ko : Known before (keep ms (lists vs)) (codes vs v.one) × (number before (keep ms (lists vs)) (codes vs v.one) ≡ renumber ms v.one)
        ko = kept_known vs front ms v.one one_good mo

        away : (listed before (keep ms (lists vs)) (begun v.label (codes vs v.zero) (codes vs v.one)) ≡ true) ⊎ (listed before (keep ms (lists vs)) (begun v.label (codes vs v.zero) (codes vs v.one)) ≡ false) →
            listed before (keep ms (lists vs)) (begun v.label (codes vs v.zero) (codes vs v.one)) ≡ false
        away (inl h) = absurd (not_there before order vs v s P (kept_held ms (lists vs) _ h))
        away (inr h) = h

  kept_all : (vs : List (Vertex S)) (ms : List Bool) → Sound before vs → length ms ≡ length vs → Whole ms vs → Kept vs ms
  kept_all vs =
      by_ends (λ xs. (ms : List Bool) → Sound before xs → length ms ≡ length xs → Whole ms xs → Kept xs ms)
      nothing more vs
    where
      nothing : (ms : List Bool) → Sound before [] → length ms ≡ 0 → Whole {S = S} ms [] → Kept [] ms
      nothing [] s l w = record { ledger = empty_row refl; drawn = refl }
      nothing (m ∷ ms) s l w = absurd (omega arith)

      more : (xs : List (Vertex S)) (x : Vertex S) → ((ms : List Bool) → Sound before xs → length ms ≡ length xs → Whole ms xs → Kept xs ms) →
          (ms : List Bool) → Sound before (xs ++ x ∷ []) → length ms ≡ length (xs ++ x ∷ []) → Whole ms (xs ++ x ∷ []) → Kept (xs ++ x ∷ []) ms
      more xs x ih ms s l w =
          let r = last_mark ms (length xs) (l ∙ length_snoc xs x) in
          subst⁻¹ (Kept (xs ++ x ∷ [])) r.2 (by r.0 r.1 r.3 (subst (λ k. Whole k (xs ++ x ∷ [])) r.2 w))
        where
          sf : Sound before xs
          sf = sound_front before order xs (x ∷ []) s

          whole_front : (ks : List Bool) (b : Bool) → length ks ≡ length xs → Whole (ks ++ b ∷ []) (xs ++ x ∷ []) → Whole ks xs
          whole_front ks b e w n v p m =
              let g : Good xs n = vertex_good xs n v p in
              let z = sf.formed.zero_below n v p in
              let o = sf.formed.one_below n v p in
              let r = w n v (look_front before order xs (x ∷ []) n v p) (marked_front ks (b ∷ []) n (omega arith) m) in
              (marked_back ks (b ∷ []) v.zero (omega arith) r.0, marked_back ks (b ∷ []) v.one (omega arith) r.1)

          by : (ks : List Bool) (b : Bool) → length ks ≡ length xs → Whole (ks ++ b ∷ []) (xs ++ x ∷ []) → Kept (xs ++ x ∷ []) (ks ++ b ∷ [])
          by ks false e w = kept_out xs x s ks e (ih ks sf e (whole_front ks false e w))
          by ks true e w =
              let z = s.formed.zero_below (suc (suc (length xs))) x (nth_last xs x) in
              let o = s.formed.one_below (suc (suc (length xs))) x (nth_last xs x) in
              let r = w (suc (suc (length xs))) x (nth_last xs x) (subst (λ k. get_or (ks ++ true ∷ []) k false ≡ true) e (get_or_last ks true false)) in
              kept_in xs x s ks e (ih ks sf e (whole_front ks true e w)) (marked_back ks (true ∷ []) x.zero (omega arith) r.0) (marked_back ks (true ∷ []) x.one (omega arith) r.1)

  pub cleared : (vs : List (Vertex S)) → Sound before vs → (ms : List Bool) → length ms ≡ length vs → Whole ms vs →
      Sound before (gather ms vs) × (lists (gather ms vs) ≡ keep ms (lists vs)) ×
      ((n : ℕ) → Good vs n → Marked ms n → Good (gather ms vs) (renumber ms n) × SameCodes vs n (gather ms vs) (renumber ms n))
  cleared vs s ms l w = (after, rows, each)
    where
      K : Kept vs ms
      K = kept_all vs ms s l w

      after : Sound before (gather ms vs)
      after = subst (Sound before) K.drawn (ledger_sound before order K.ledger)

      rows : lists (gather ms vs) ≡ keep ms (lists vs)
      rows = ap lists (sym K.drawn) ∙ lists_vertices_of before order K.ledger

      each : (n : ℕ) → Good vs n → Marked ms n → Good (gather ms vs) (renumber ms n) × SameCodes vs n (gather ms vs) (renumber ms n)
      each n g m =
          let k = kept_known vs s ms n g m in
          let P = pictured before order (gather ms vs) after in
          let long : length (keep ms (lists vs)) ≡ length (gather ms vs) = ap length (sym rows) ∙ P.long in
          let good : Good (gather ms vs) (renumber ms n) = omega (arith, number_good before order (keep ms (lists vs)) (codes vs n) k.0, k.1) in
          let one : codes (gather ms vs) (renumber ms n) ≡ codes vs n =
          ap (λ r. list_in r (renumber ms n)) rows ∙ ap (list_in (keep ms (lists vs))) (sym k.1) ∙ list_number before order (keep ms (lists vs)) (codes vs n) k.0 in (
            good,
            same_lists before order vs (gather ms vs) s.formed after.formed n (renumber ms n) g good (sym one),
          )
