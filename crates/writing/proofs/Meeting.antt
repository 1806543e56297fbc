-- The order and the places of its vertices.
use Rattle.std.proofs.Common.{◌≡◌, ℕ, zero, suc, ◌+◌, ◌-◌, ◌<◌, ◌≤◌, ◌≢◌, ◌⊎◌, List, [], ◌∷◌, ◌++◌, length, get_or, set, sym, refl, ap, ◌∙◌, inl, inr, arith, length-set, get_or-set_other, get_or-set_same}
use mathlib.Core.List.{Memᴰ}
use native.Mathlib.Decide.{ℕ_discrete}
use Rattle.memory.specs.declared.work.Place.{Place}
use Rattle.ledger.specs.Diagrams.{Apart}
use Rattle.ledger.proofs.Pigeons.{pigeons, upwards, length_upwards, in_upwards}
use Rattle.writing.specs.Met.{vacant, list_at, number_at, met_numbers, Sparse, Unmet, listing, numbering, with_listed, with_met}

-- what the second write leaves of the lists, and what the first leaves of the numbers
numbering_list : (ps : List Place) (j x : ℕ) → j < length ps → (k : ℕ) → list_at (set ps j (numbering (get_or ps j vacant) x)) k ≡ list_at ps k
numbering_list ps j x h k = by (ℕ_discrete k j)
  where
    by : Dec (k ≡ j) → list_at (set ps j (numbering (get_or ps j vacant) x)) k ≡ list_at ps k
    by (yes e) = rw e (ap (λ (p : Place). p.list) (get_or-set_same ps j (numbering (get_or ps j vacant) x) vacant h))
    by (no f) = ap (λ (p : Place). p.list) (get_or-set_other ps j k (numbering (get_or ps j vacant) x) vacant f)

listing_number : (ps : List Place) (m n : ℕ) → m < length ps → (k : ℕ) → number_at (with_listed ps m n) k ≡ number_at ps k
listing_number ps m n h k = by (ℕ_discrete k m)
  where
    by : Dec (k ≡ m) → number_at (with_listed ps m n) k ≡ number_at ps k
    by (yes e) = rw e (ap (λ (p : Place). p.number) (get_or-set_same ps m (listing (get_or ps m vacant) n) vacant h))
    by (no f) = ap (λ (p : Place). p.number) (get_or-set_other ps m k (listing (get_or ps m vacant) n) vacant f)

module _ (ps : List Place) (m n : ℕ) (few : m < length ps) (low : 2 ≤ n) (high : n ≤ length ps + 1) where
  long : length (with_listed ps m n) ≡ length ps
  long = length-set ps m (listing (get_or ps m vacant) n)

  pub met_long : length (with_met ps m n) ≡ length ps
  met_long = length-set (with_listed ps m n) (n - 2) (numbering (get_or (with_listed ps m n) (n - 2) vacant) m) ∙ long

  pub list_met : list_at (with_met ps m n) m ≡ n
  list_met =
      numbering_list (with_listed ps m n) (n - 2) m (omega (arith, long)) m ∙
      ap (λ (p : Place). p.list) (get_or-set_same ps m (listing (get_or ps m vacant) n) vacant few)

  pub list_old : (k : ℕ) → k < m → list_at (with_met ps m n) k ≡ list_at ps k
  list_old k h =
      let other : k ≢ m = omega arith in
      numbering_list (with_listed ps m n) (n - 2) m (omega (arith, long)) k ∙
      ap (λ (p : Place). p.list) (get_or-set_other ps m k (listing (get_or ps m vacant) n) vacant other)

  number_met : number_at (with_met ps m n) (n - 2) ≡ m
  number_met = ap (λ (p : Place). p.number) (get_or-set_same (with_listed ps m n) (n - 2) (numbering (get_or (with_listed ps m n) (n - 2) vacant) m) vacant (omega (arith, long)))

  number_old : (j : ℕ) → j ≢ n - 2 → number_at (with_met ps m n) j ≡ number_at ps j
  number_old j f =
      ap (λ (p : Place). p.number) (get_or-set_other (with_listed ps m n) (n - 2) j (numbering (get_or (with_listed ps m n) (n - 2) vacant) m) vacant f) ∙
      listing_number ps m n few j

  -- one more in the order
  pub sparse_more : Sparse ps m → Unmet ps m n → Sparse (with_met ps m n) (suc m)
  sparse_more sparse new k h = by (ℕ_discrete k m)
    where
      by : Dec (k ≡ m) → (2 ≤ list_at (with_met ps m n) k) × (list_at (with_met ps m n) k ≤ length (with_met ps m n) + 1) × (number_at (with_met ps m n) (list_at (with_met ps m n) k - 2) ≡ k)
      by (yes e) = rw (e, list_met, met_long) (low, high, number_met)
      by (no f) =
          let small : k < m = omega arith in
          let was = sparse k small in
          let there : list_at ps k ≢ n = λ e. new k small e in
          let apart : list_at ps k - 2 ≢ n - 2 = λ e. there (omega (arith, was.0)) in
          rw (list_old k small, met_long) (was.0, was.1, number_old (list_at ps k - 2) apart ∙ was.2)

  pub numbers_more : met_numbers (with_met ps m n) (suc m) ≡ met_numbers ps m ++ n ∷ []
  numbers_more = (λ i. front m (omega arith) i ++ list_met i ∷ [])
    where
      front : (j : ℕ) → j ≤ m → met_numbers (with_met ps m n) j ≡ met_numbers ps j
      front zero h = refl
      front (suc j) h = (λ i. front j (omega arith) i ++ list_old j (omega arith) i ∷ [])

  -- another that is not met stays so
  pub unmet_more : (k : ℕ) → k ≢ n → Unmet ps m k → Unmet (with_met ps m n) (suc m) k
  unmet_more k other new j h e = by (ℕ_discrete j m)
    where
      by : Dec (j ≡ m) → ⊥
      by (yes f) = other (sym e ∙ ap (list_at (with_met ps m n)) f ∙ list_met)
      by (no f) = let small : j < m = omega arith in new j small (sym (list_old j small) ∙ e)

upwards_from : (k n i : ℕ) → Memᴰ i (upwards k n) → k ≤ i
upwards_from k zero i m = elim m [ ]
upwards_from k (suc n) i (Memᴰ.head e) = omega arith
upwards_from k (suc n) i (Memᴰ.tail m) = let h = upwards_from (suc k) n i m in omega arith

upwards_below : (k n i : ℕ) → Memᴰ i (upwards k n) → i < k + n
upwards_below k zero i m = elim m [ ]
upwards_below k (suc n) i (Memᴰ.head e) = omega arith
upwards_below k (suc n) i (Memᴰ.tail m) = let h = upwards_below (suc k) n i m in omega arith

upwards_apart : (k n : ℕ) → Apart (upwards k n)
upwards_apart k zero = tt
upwards_apart k (suc n) = (λ m. let h = upwards_from (suc k) n k m in omega arith, upwards_apart (suc k) n)

-- while a vertex is not met, the order has room
module _ (ps : List Place) (m n : ℕ) (sparse : Sparse ps m) (new : Unmet ps m n) (low : 2 ≤ n) (high : n ≤ length ps + 1) where
  abbrev Own : ℕ → ℕ → Type 0
  Own k d = ((d ≡ n) × (k ≡ m)) ⊎ ((d ≢ n) × (k ≡ number_at ps (d - 2)))

  same_own : (k j d : ℕ) → Own k d → Own j d → k ≡ j
  same_own k j d (inl p) (inl q) = p.1 ∙ sym q.1
  same_own k j d (inl p) (inr q) = absurd (q.0 p.0)
  same_own k j d (inr p) (inl q) = absurd (p.0 q.0)
  same_own k j d (inr p) (inr q) = p.1 ∙ sym q.1

  pub room : m < length ps
  room =
      let all = pigeons Own (upwards 0 (suc m)) (upwards 2 (length ps)) (upwards_apart 0 (suc m)) each (λ k j d a b p q. same_own k j d p q) in
      omega (arith, length_upwards 0 (suc m), length_upwards 2 (length ps))
    where
      each : (k : ℕ) → Memᴰ k (upwards 0 (suc m)) → (d : ℕ) × Memᴰ d (upwards 2 (length ps)) × Own k d
      each k i = by (ℕ_discrete k m)
        where
          by : Dec (k ≡ m) → (d : ℕ) × Memᴰ d (upwards 2 (length ps)) × Own k d
          by (yes e) = (n, in_upwards 2 (length ps) n low (omega arith), inl (refl, e))
          by (no f) =
              let small : k < m = (let h = upwards_below 0 (suc m) k i in omega arith) in
              let was = sparse k small in
              (list_at ps k, in_upwards 2 (length ps) (list_at ps k) was.0 (omega (arith, was.1)), inr (λ e. new k small e, sym was.2))
