-- From the last number down marks spread over links, and in the end they keep just what is reached from the lists.
use Rattle.std.proofs.Common.{◌≡◌, ℕ, zero, suc, ◌+◌, ◌<◌, ◌≤◌, Bool, ◌⊎◌, List, [], ◌∷◌, length, take, Some, None, sym, refl, ◌∙◌, subst, inl, inr, arith}
use mathlib.Core.List.{Memᴰ}
use mathlib.Core.Path.{subst⁻¹}
use Rattle.std.proofs.lemmas.Bool.{cases_eq}
use Rattle.std.proofs.lemmas.List.{length-take-le}
use Rattle.std.specs.List.{slice_get}
use Rattle.ledger.specs.declared.Vertex.{Vertex}
use Rattle.ledger.specs.Diagrams.{look, Formed, Reached, itself, over_zero, over_one}
use Rattle.ledger.specs.Gather.{Gatherable, Keeps, Marked}
use Rattle.ledger.proofs.Reading.{some_same, none_some, true_false}
use Rattle.ledger.proofs.Canon.{vertex_good}
use Rattle.ledger.proofs.Least.{vertex_from_2}
use Rattle.memory.specs.Spreading.{Spread, Visited, with_mark, with_marks}
use Rattle.memory.proofs.Spreading.{Unmarked, mark_stays, mark_here, mark_cases, length_mark, marks_here, marks_cases, length_marks}

-- the first vertices
nth_front : {A : Type 0} (xs : List A) (m k : ℕ) → k < m → slice_get (take m xs) k ≡ slice_get xs k
nth_front xs zero k h = absurd (omega arith)
nth_front [] (suc m) k h = refl
nth_front (x ∷ xs) (suc m) zero h = refl
nth_front (x ∷ xs) (suc m) (suc k) h = nth_front xs m k (omega arith)

pub look_front : {S : Type 0} (vs : List (Vertex S)) (m n : ℕ) → n ≤ m + 1 → look (take m vs) n ≡ look vs n
look_front vs m zero h = refl
look_front vs m (suc zero) h = refl
look_front vs m (suc (suc k)) h = nth_front vs m k (omega arith)

pub front_look : {S : Type 0} (vs : List (Vertex S)) (m n : ℕ) (v : Vertex S) → m ≤ length vs → look (take m vs) n ≡ Some v → look vs n ≡ Some v
front_look vs m n v h e =
    let g = vertex_good (take m vs) n v e in
    sym (look_front vs m n (omega (arith, length-take-le m vs h))) ∙ e

pub formed_front : {S : Type 0} (before : S → S → Bool) (vs : List (Vertex S)) (m : ℕ) → m ≤ length vs → Formed before vs → Formed before (take m vs)
formed_front before vs m h formed =
    record {
      zero_below = λ n v e. formed.zero_below n v (front_look vs m n v h e);
      one_below = λ n v e. formed.one_below n v (front_look vs m n v h e);
      one_not_0 = λ n v e. formed.one_not_0 n v (front_look vs m n v h e);
      later = λ n v w e f. formed.later n v w (front_look vs m n v h e) (front_look vs m v.zero w h f);
    }

-- what coming to a number does, where it has a place
pub visited_front : {S : Type 0} (vs : List (Vertex S)) (m n : ℕ) (ms after : List Bool) → n ≤ m + 1 → Visited vs n ms after → Visited (take m vs) n ms after
visited_front vs m n ms after h (inl u) = inl (u.0, (u.1.0, look_front vs m n h ∙ u.1.1, u.1.2))
visited_front vs m n ms after h (inr (inl not, is)) = inr (inl not, is)
visited_front vs m n ms after h (inr (inr none, is)) = inr (inr (look_front vs m n h ∙ none), is)

-- what is reached from what is reached is reached
reached_then : {S : Type 0} {vs : List (Vertex S)} {a b k : ℕ} → Reached vs a b → Reached vs b k → Reached vs a k
reached_then {vs = vs} {k = k} (itself v p e) r = subst⁻¹ (λ n. Reached vs n k) e r
reached_then (over_zero v p q) r = over_zero v p (reached_then q r)
reached_then (over_one v p q) r = over_one v p (reached_then q r)

-- only a vertex reaches anything
pub reached_by : {S : Type 0} {vs : List (Vertex S)} {n k : ℕ} → Reached vs n k → (v : Vertex S) × (look vs n ≡ Some v)
reached_by (itself v p e) = (v, p)
reached_by (over_zero v p r) = (v, p)
reached_by (over_one v p r) = (v, p)

module _ {S : Type 0} (vs : List (Vertex S)) where
  never_marked : (ms : List Bool) (k : ℕ) (v : Vertex S) → Unmarked ms → look vs k ≡ Some v → Marked ms k → ⊥
  never_marked ms zero v un p m = none_some refl p
  never_marked ms (suc zero) v un p m = none_some refl p
  never_marked ms (suc (suc i)) v un p m = true_false m (un i)

  pub spread_start : (keep : List ℕ) (ms : List Bool) → length ms ≡ length vs → Unmarked ms → Spread vs keep (length vs + 2) (with_marks ms keep)
  spread_start keep ms l un =
      record {
        numbered = length_marks keep ms ∙ l;
        reached = λ k v p m. by k v p (marks_cases keep ms k m);
        kept = λ k v p i. let g = vertex_good vs k v p in marks_here keep ms k i (omega arith);
        links = λ k v h p m. let g = vertex_good vs k v p in absurd (omega arith);
      }
    where
      by : (k : ℕ) (v : Vertex S) → look vs k ≡ Some v → Memᴰ k keep ⊎ Marked ms k → (j : ℕ) × Memᴰ j keep × Reached vs j k
      by k v p (inl i) = (k, i, itself v p refl)
      by k v p (inr m) = absurd (never_marked ms k v un p m)

  pub spread_on : (keep : List ℕ) (ms : List Bool) (m n : ℕ) → m ≤ n → Spread vs keep m ms → Spread vs keep n ms
  spread_on keep ms m n h K =
      record {
        numbered = K.numbered;
        reached = K.reached;
        kept = K.kept;
        links = λ k v l p a. K.links k v (omega arith) p a;
      }

module _ {S : Type 0} (before : S → S → Bool) (vs : List (Vertex S)) (formed : Formed before vs) (keep : List ℕ) where
  -- one number down
  module _ (n : ℕ) (ms : List Bool) (K : Spread vs keep (n + 1) ms) where
    passed : (Marked ms n → ⊥) ⊎ (look vs n ≡ None) → Spread vs keep n ms
    passed here =
        record {
          numbered = K.numbered;
          reached = K.reached;
          kept = K.kept;
          links = λ k v h p m. by k v h p m (cases_eq k n);
        }
      where
        never : (v : Vertex S) → look vs n ≡ Some v → Marked ms n → (Marked ms n → ⊥) ⊎ (look vs n ≡ None) → ⊥
        never v p m (inl f) = f m
        never v p m (inr f) = none_some f p

        by : (k : ℕ) (v : Vertex S) → n ≤ k → look vs k ≡ Some v → Marked ms k → (k ≡ n) ⊎ (k ≡ n → ⊥) → Marked ms v.zero × Marked ms v.one
        by k v h p m (inl e) = absurd (never v (subst (λ x. look vs x ≡ Some v) e p) (subst (Marked ms) e m) here)
        by k v h p m (inr f) = K.links k v (omega arith) p m

    module _ (v : Vertex S) (at_n : look vs n ≡ Some v) (marked : Marked ms n) where
      zero_low : v.zero < n
      zero_low = formed.zero_below n v at_n

      one_low : v.one < n
      one_low = formed.one_below n v at_n

      abbrev half : List Bool
      half = with_mark ms v.zero

      abbrev both : List Bool
      both = with_mark half v.one

      both_stay : (k : ℕ) → Marked ms k → Marked both k
      both_stay k m = mark_stays half v.one k (mark_stays ms v.zero k m)

      zero_marked : Marked both v.zero
      zero_marked =
          let g = vertex_good vs n v at_n in
          mark_stays half v.one v.zero (mark_here ms v.zero (omega (arith, zero_low, K.numbered)))

      one_marked : Marked both v.one
      one_marked =
          let g = vertex_good vs n v at_n in
          mark_here half v.one (omega (arith, one_low, K.numbered, length_mark ms v.zero))

      -- a mark from n on is an old one
      was_marked : (k : ℕ) → n ≤ k → Marked both k → Marked ms k
      was_marked k h m = by_one (mark_cases half v.one k m)
        where
          by_zero : (k ≡ v.zero) ⊎ Marked ms k → Marked ms k
          by_zero (inl e) = absurd (omega (arith, zero_low))
          by_zero (inr a) = a

          by_one : (k ≡ v.one) ⊎ Marked half k → Marked ms k
          by_one (inl e) = absurd (omega (arith, one_low))
          by_one (inr a) = by_zero (mark_cases ms v.zero k a)

      came_to : Spread vs keep n both
      came_to =
          record {
            numbered = length_mark half v.one ∙ length_mark ms v.zero ∙ K.numbered;
            reached = λ k w p m. by_one k w p (mark_cases half v.one k m);
            kept = λ k w p i. both_stay k (K.kept k w p i);
            links = λ k w h p m. by k w h p (was_marked k h m) (cases_eq k n);
          }
        where
          from : (j : ℕ) × Memᴰ j keep × Reached vs j n
          from = K.reached n v at_n marked

          by_zero : (k : ℕ) (w : Vertex S) → look vs k ≡ Some w → (k ≡ v.zero) ⊎ Marked ms k → (j : ℕ) × Memᴰ j keep × Reached vs j k
          by_zero k w p (inl e) = (from.0, from.1, reached_then from.2 (over_zero v at_n (itself w (subst (λ x. look vs x ≡ Some w) e p) (sym e))))
          by_zero k w p (inr a) = K.reached k w p a

          by_one : (k : ℕ) (w : Vertex S) → look vs k ≡ Some w → (k ≡ v.one) ⊎ Marked half k → (j : ℕ) × Memᴰ j keep × Reached vs j k
          by_one k w p (inl e) = (from.0, from.1, reached_then from.2 (over_one v at_n (itself w (subst (λ x. look vs x ≡ Some w) e p) (sym e))))
          by_one k w p (inr a) = by_zero k w p (mark_cases ms v.zero k a)

          by : (k : ℕ) (w : Vertex S) → n ≤ k → look vs k ≡ Some w → Marked ms k → (k ≡ n) ⊎ (k ≡ n → ⊥) → Marked both w.zero × Marked both w.one
          by k w h p m (inl e) =
              subst (λ (x : Vertex S). Marked both x.zero × Marked both x.one) (some_same at_n (subst (λ x. look vs x ≡ Some w) e p)) (zero_marked, one_marked)
          by k w h p m (inr f) =
              let r = K.links k w (omega arith) p m in
              (both_stay w.zero r.0, both_stay w.one r.1)

    pub spread_more : (after : List Bool) → Visited vs n ms after → Spread vs keep n after
    spread_more after (inl (m, u)) = subst⁻¹ (Spread vs keep n) u.2 (came_to u.0 u.1 m)
    spread_more after (inr (none, e)) = subst⁻¹ (Spread vs keep n) e (passed none)

  -- over every link
  module _ (ms : List Bool) (K : Spread vs keep 2 ms) where
    whole : (n : ℕ) (v : Vertex S) → look vs n ≡ Some v → Marked ms n → Marked ms v.zero × Marked ms v.one
    whole n v p m = K.links n v (vertex_from_2 vs n v p) p m

    all_marked : {j k : ℕ} → Marked ms j → Reached vs j k → Marked ms k
    all_marked m (itself v p e) = subst (Marked ms) e m
    all_marked {j} m (over_zero v p r) = all_marked (whole j v p m).0 r
    all_marked {j} m (over_one v p r) = all_marked (whole j v p m).1 r

    pub spread_gatherable : Gatherable ms vs
    spread_gatherable =
        record {
          numbered = K.numbered;
          below = λ n v p m. (formed.zero_below n v p, formed.one_below n v p);
          whole = whole;
        }

    pub spread_keeps : Keeps vs keep ms
    spread_keeps = (
      K.numbered,
      λ n v p. (
        K.reached n v p,
        λ r. let w = reached_by r.2 in all_marked (K.kept r.0 w.0 w.1 r.1) r.2,
      ),
    )
