-- The marks on what is reached from a number are as many as the vertices reached from it.
use Rattle.std.proofs.Common.{◌≡◌, ℕ, zero, suc, ◌+◌, ◌-◌, ◌<◌, ◌≤◌, min, Bool, true, false, cond, List, [], ◌∷◌, length, get_or, take, count_by, Some, sym, refl, ap, ◌∙◌, subst, arith}
use mathlib.Core.List.{Memᴰ}
use Rattle.std.proofs.lemmas.Bool.{false≢true}
use Rattle.std.proofs.lemmas.List.Sums.{sum_by-cons}
use Rattle.ledger.specs.declared.Vertex.{Vertex}
use Rattle.ledger.specs.Diagrams.{look, Formed, Reached, itself, over_zero, over_one, Apart, Counts}
use Rattle.ledger.specs.Gather.{Keeps, Marked}
use Rattle.ledger.proofs.Canon.{vertex_good}
use Rattle.ledger.proofs.Least.{vertex_from_2}
use Rattle.memory.specs.declared.work.Place.{Place}
use Rattle.memory.specs.Shelves.{is_mark, marks_in}
use Rattle.memory.proofs.Reaching.{look_front, front_look, reached_by}
use Rattle.counting.proofs.Nths.{nth_some}

-- the numbers that are marked, where the first mark is that of n
abbrev numbers : ℕ → List Bool → List ℕ
numbers n [] = []
numbers n (true ∷ ms) = n ∷ numbers (suc n) ms
numbers n (false ∷ ms) = numbers (suc n) ms

numbers_many : (n : ℕ) (ps : List Place) → length (numbers n (marks_in ps)) ≡ count_by is_mark ps
numbers_many n [] = refl
numbers_many n (p ∷ ps) = by (is_mark p) (numbers_many (suc n) ps) ∙ sym (sum_by-cons (λ (q : Place). cond (is_mark q) 1 0) p ps)
  where
    by : (b : Bool) → length (numbers (suc n) (marks_in ps)) ≡ count_by is_mark ps → length (numbers n (b ∷ marks_in ps)) ≡ cond b 1 0 + count_by is_mark ps
    by true e = omega arith
    by false e = omega arith

numbers_marked : (n : ℕ) (ms : List Bool) (k : ℕ) → Memᴰ k (numbers n ms) → (j : ℕ) × (k ≡ n + j) × (j < length ms) × (get_or ms j false ≡ true)
numbers_marked n [] k i = elim i [ ]
numbers_marked n (true ∷ ms) k (Memᴰ.head e) = (0, omega arith, omega arith, refl)
numbers_marked n (true ∷ ms) k (Memᴰ.tail i) = let f = numbers_marked (suc n) ms k i in (suc f.0, omega arith, omega arith, f.3)
numbers_marked n (false ∷ ms) k i = let f = numbers_marked (suc n) ms k i in (suc f.0, omega arith, omega arith, f.3)

marked_numbers : (n : ℕ) (ms : List Bool) (j k : ℕ) → k ≡ n + j → get_or ms j false ≡ true → Memᴰ k (numbers n ms)
marked_numbers n [] j k e m = absurd (false≢true m)
marked_numbers n (true ∷ ms) zero k e m = Memᴰ.head (omega arith)
marked_numbers n (true ∷ ms) (suc j) k e m = Memᴰ.tail (marked_numbers (suc n) ms j k (omega arith) m)
marked_numbers n (false ∷ ms) zero k e m = absurd (false≢true m)
marked_numbers n (false ∷ ms) (suc j) k e m = marked_numbers (suc n) ms j k (omega arith) m

numbers_apart : (n : ℕ) (ms : List Bool) → Apart (numbers n ms)
numbers_apart n [] = tt
numbers_apart n (true ∷ ms) = (λ i. let f = numbers_marked (suc n) ms n i in omega arith, numbers_apart (suc n) ms)
numbers_apart n (false ∷ ms) = numbers_apart (suc n) ms

-- what is reached is a vertex
reached_vertex : {S : Type 0} {vs : List (Vertex S)} {n k : ℕ} → Reached vs n k → (v : Vertex S) × (look vs k ≡ Some v)
reached_vertex {vs = vs} (itself v p e) = (v, ap (look vs) (sym e) ∙ p)
reached_vertex (over_zero v p r) = reached_vertex r
reached_vertex (over_one v p r) = reached_vertex r

-- the first m vertices are all that a list of them reaches
module _ {S : Type 0} (before : S → S → Bool) (vs : List (Vertex S)) (formed : Formed before vs) (m : ℕ) (inside : m ≤ length vs) where
  reached_back : {n k : ℕ} → Reached (take m vs) n k → Reached vs n k
  reached_back {n} (itself v p e) = itself v (front_look vs m n v inside p) e
  reached_back {n} (over_zero v p r) = over_zero v (front_look vs m n v inside p) (reached_back r)
  reached_back {n} (over_one v p r) = over_one v (front_look vs m n v inside p) (reached_back r)

  reached_front : {n k : ℕ} → n ≤ m + 1 → Reached vs n k → Reached (take m vs) n k
  reached_front {n} h (itself v p e) = itself v (look_front vs m n h ∙ p) e
  reached_front {n} h (over_zero v p r) = let l = formed.zero_below n v p in over_zero v (look_front vs m n h ∙ p) (reached_front (omega arith) r)
  reached_front {n} h (over_one v p r) = let l = formed.one_below n v p in over_one v (look_front vs m n h ∙ p) (reached_front (omega arith) r)

  module _ (list : ℕ) (there : m ≡ min (list - 1) (length vs)) (ps : List Place) (keeps : Keeps (take m vs) (list ∷ []) (marks_in ps)) where
    from_list : {k : ℕ} → (i : ℕ) × Memᴰ i (list ∷ []) × Reached (take m vs) i k → Reached vs list k
    from_list {k} f = reached_back (subst (λ i. Reached (take m vs) i k) (only f.0 f.1) f.2)
      where
        only : (i : ℕ) → Memᴰ i (list ∷ []) → i ≡ list
        only i (Memᴰ.head e) = e
        only i (Memᴰ.tail t) = elim t [ ]

    is_reached : (k : ℕ) → Memᴰ k (numbers 2 (marks_in ps)) → Reached vs list k
    is_reached k i =
        let f = numbers_marked 2 (marks_in ps) k i in
        let v = nth_some (take m vs) f.0 (omega (arith, f.2, keeps.0)) in
        let e : suc (suc f.0) ≡ k = omega (arith, f.1) in
        subst (Reached vs list) e (from_list ((keeps.1 (suc (suc f.0)) v.0 v.1).0 f.3))

    has_number : (k : ℕ) → 2 ≤ k → Marked (marks_in ps) k → Memᴰ k (numbers 2 (marks_in ps))
    has_number zero h a = absurd (omega arith)
    has_number (suc zero) h a = absurd (omega arith)
    has_number (suc (suc j)) h a = marked_numbers 2 (marks_in ps) j (suc (suc j)) (omega arith) a

    is_marked : (k : ℕ) → Reached vs list k → Memᴰ k (numbers 2 (marks_in ps))
    is_marked k r =
        let first = reached_by r in
        let good = vertex_good vs list first.0 first.1 in
        let front = reached_front (omega (arith, good, there)) r in
        let v = reached_vertex front in
        has_number k (vertex_from_2 (take m vs) k v.0 v.1) ((keeps.1 k v.0 v.1).1 (list, Memᴰ.head refl, front))

    pub marks_count : Counts (Reached vs list) (count_by is_mark ps)
    marks_count =
        record {
          them = numbers 2 (marks_in ps);
          apart = numbers_apart 2 (marks_in ps);
          sound = is_reached;
          whole = is_marked;
          many = numbers_many 2 ps;
        }
