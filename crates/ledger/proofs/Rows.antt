-- Rows of lists: where a list stands, what laying down adds, and that it keeps a ledger a ledger.
use Rattle.std.proofs.Common.{◌≡◌, ℕ, zero, suc, ◌+◌, ◌<◌, ◌≤◌, Bool, true, false, cond, ◌⊎◌, List, [], ◌∷◌, ◌++◌, length, get_or, sym, refl, ap, ◌∙◌, subst, inl, inr, append_assoc, append-nil, arith}
use native.Mathlib.Decide.{ℕ_discrete}
use Rattle.symbols.specs.Order.{Order}
pub use Rattle.symbols.proofs.Orders.{both_ways}
use Rattle.ledger.specs.Lists.{Part, Codes, none, blank, begun, Proper, same}
use Rattle.ledger.specs.Ledger.{listed, position, number, lay, list_in}
use Rattle.ledger.proofs.Reading.{true_false}
use Rattle.ledger.proofs.Sets.{same_equal, same_self}
use Rattle.ledger.proofs.Ends.{get_or_front, get_or_last, length_snoc}

abbrev size : {S : Type 0} → Codes S → ℕ
size none = 0
size blank = 0
size (begun a z o) = suc (size z + size o)

-- a part is no larger
part_small : {S : Type 0} (t u : Codes S) → Part t u → size u ≤ size t
part_small {S} none u e = let h : size {S = S} none ≡ size u = ap size e in omega arith
part_small {S} blank u e = let h : size {S = S} blank ≡ size u = ap size e in omega arith
part_small (begun a z o) u (inl e) = let h : size (begun a z o) ≡ size u = ap size e in omega arith
part_small (begun a z o) u (inr (inl p)) = let h = part_small z u p in omega arith
part_small (begun a z o) u (inr (inr p)) = let h = part_small o u p in omega arith

-- the list is a terminal, or has a number in the row
abbrev pub Known : {S : Type 0} → (S → S → Bool) → List (Codes S) → Codes S → Type 0
Known before row none = Unit {0}
Known before row blank = Unit {0}
Known before row (begun a z o) = listed before row (begun a z o) ≡ true

-- different proper lists, each after its outer and its inner list
pub data Ledger {S : Type 0} (before : S → S → Bool) : List (Codes S) → Type 0 where
  empty_row : {row : List (Codes S)} → row ≡ [] → Ledger before row
  one_more : {row : List (Codes S)} (front : List (Codes S)) (a : S) (z o : Codes S) → row ≡ front ++ begun a z o ∷ [] → Ledger before front →
      Known before front z → Known before front o → Proper before (begun a z o) → listed before front (begun a z o) ≡ false → Ledger before row

module _ {S : Type 0} (before : S → S → Bool) (order : Order before) where
  pub listed_front : (row more : List (Codes S)) (t : Codes S) → listed before row t ≡ true → listed before (row ++ more) t ≡ true
  listed_front [] more t e = absurd (true_false e refl)
  listed_front (u ∷ row) more t e =
      elim (same before u t) as (λ b. cond b true (listed before row t) ≡ true → cond b true (listed before (row ++ more) t) ≡ true) [
        | true ↦ λ f. refl
        | false ↦ λ f. listed_front row more t f
      ] e

  pub listed_last : (row : List (Codes S)) (t : Codes S) → listed before (row ++ t ∷ []) t ≡ true
  listed_last [] t = rw (same_self before order t)
  listed_last (u ∷ row) t =
      elim (same before u t) as (λ b. cond b true (listed before (row ++ t ∷ []) t) ≡ true) [ true ↦ refl | false ↦ listed_last row t ]

  pub listed_cases : (row : List (Codes S)) (x t : Codes S) → listed before (row ++ x ∷ []) t ≡ true → (listed before row t ≡ true) ⊎ (x ≡ t)
  listed_cases [] x t e = by (both_ways (same before x t))
    where
      by : (same before x t ≡ true) ⊎ (same before x t ≡ false) → (false ≡ true) ⊎ (x ≡ t)
      by (inl p) = inr (same_equal before order x t p)
      by (inr p) = absurd (true_false e (rw p))
  listed_cases (u ∷ row) x t e =
      elim (same before u t) as (λ b. cond b true (listed before (row ++ x ∷ []) t) ≡ true → (cond b true (listed before row t) ≡ true) ⊎ (x ≡ t)) [
        | true ↦ λ f. inl refl
        | false ↦ λ f. listed_cases row x t f
      ] e

  pub position_front : (row more : List (Codes S)) (t : Codes S) → listed before row t ≡ true → position before (row ++ more) t ≡ position before row t
  position_front [] more t e = absurd (true_false e refl)
  position_front (u ∷ row) more t e =
      elim (same before u t) as (λ b. cond b true (listed before row t) ≡ true → cond b 0 (suc (position before (row ++ more) t)) ≡ cond b 0 (suc (position before row t))) [
        | true ↦ λ f. refl
        | false ↦ λ f. ap suc (position_front row more t f)
      ] e

  pub position_last : (row : List (Codes S)) (t : Codes S) → listed before row t ≡ false → position before (row ++ t ∷ []) t ≡ length row
  position_last [] t e = rw (same_self before order t)
  position_last (u ∷ row) t e =
      elim (same before u t) as (λ b. cond b true (listed before row t) ≡ false → cond b 0 (suc (position before (row ++ t ∷ []) t)) ≡ suc (length row)) [
        | true ↦ λ f. absurd (true_false refl f)
        | false ↦ λ f. ap suc (position_last row t f)
      ] e

  pub position_below : (row : List (Codes S)) (t : Codes S) → listed before row t ≡ true → position before row t < length row
  position_below [] t e = absurd (true_false e refl)
  position_below (u ∷ row) t e =
      elim (same before u t) as (λ b. cond b true (listed before row t) ≡ true → cond b 0 (suc (position before row t)) < suc (length row)) [
        | true ↦ λ f. omega arith
        | false ↦ λ f. let h = position_below row t f in omega arith
      ] e

  pub get_or_position : (row : List (Codes S)) (t d : Codes S) → listed before row t ≡ true → get_or row (position before row t) d ≡ t
  get_or_position [] t d e = absurd (true_false e refl)
  get_or_position (u ∷ row) t d e = by (both_ways (same before u t)) (get_or_position row t d)
    where
      by : (same before u t ≡ true) ⊎ (same before u t ≡ false) → (listed before row t ≡ true → get_or row (position before row t) d ≡ t) → get_or (u ∷ row) (position before (u ∷ row) t) d ≡ t
      by (inl p) below = rw p (same_equal before order u t p)
      by (inr p) below = rw p (below (rw p at e))

  pub listed_get_or : (row : List (Codes S)) (k : ℕ) (d : Codes S) → k < length row → listed before row (get_or row k d) ≡ true
  listed_get_or [] k d h = absurd (omega arith)
  listed_get_or (u ∷ row) zero d h = rw (same_self before order u)
  listed_get_or (u ∷ row) (suc k) d h =
      elim (same before u (get_or row k d)) as (λ b. cond b true (listed before row (get_or row k d)) ≡ true) [ true ↦ refl | false ↦ listed_get_or row k d (omega arith) ]

  -- what is known
  pub known_held : (row : List (Codes S)) (t : Codes S) → listed before row t ≡ true → Known before row t
  known_held row none e = tt
  known_held row blank e = tt
  known_held row (begun a z o) e = e

  pub known_front : (row more : List (Codes S)) (t : Codes S) → Known before row t → Known before (row ++ more) t
  known_front row more none k = tt
  known_front row more blank k = tt
  known_front row more (begun a z o) k = listed_front row more (begun a z o) k

  pub number_front : (row more : List (Codes S)) (t : Codes S) → Known before row t → number before (row ++ more) t ≡ number before row t
  number_front row more none k = refl
  number_front row more blank k = refl
  number_front row more (begun a z o) k = ap (λ n. suc (suc n)) (position_front row more (begun a z o) k)

  pub number_good : (row : List (Codes S)) (t : Codes S) → Known before row t → number before row t ≤ length row + 1
  number_good row none k = omega arith
  number_good row blank k = omega arith
  number_good row (begun a z o) k = let h = position_below row (begun a z o) k in omega arith

  pub list_number : (row : List (Codes S)) (t : Codes S) → Known before row t → list_in row (number before row t) ≡ t
  list_number row none k = refl
  list_number row blank k = refl
  list_number row (begun a z o) k = get_or_position row (begun a z o) none k

  pub list_front : (row more : List (Codes S)) (n : ℕ) → n ≤ length row + 1 → list_in (row ++ more) n ≡ list_in row n
  list_front row more zero h = refl
  list_front row more (suc zero) h = refl
  list_front row more (suc (suc k)) h = get_or_front row more k none (omega arith)

  pub known_list : (row : List (Codes S)) (n : ℕ) → n ≤ length row + 1 → Known before row (list_in row n)
  known_list row zero h = tt
  known_list row (suc zero) h = tt
  known_list row (suc (suc k)) h = known_held row (get_or row k none) (listed_get_or row k none (omega arith))

  -- in a ledger
  pub held_proper : {row : List (Codes S)} → Ledger before row → (t : Codes S) → listed before row t ≡ true → Proper before t
  held_proper (empty_row e) t h = absurd (true_false h (rw e))
  held_proper (one_more front a z o e L kz ko p new) t h = by (listed_cases front (begun a z o) t (rw e at h)) (held_proper L t)
    where
      by : (listed before front t ≡ true) ⊎ (begun a z o ≡ t) → (listed before front t ≡ true → Proper before t) → Proper before t
      by (inl k) below = below k
      by (inr k) below = subst (Proper before) k p

  pub known_proper : {row : List (Codes S)} → Ledger before row → (t : Codes S) → Known before row t → Proper before t
  known_proper L none k = tt
  known_proper L blank k = tt
  known_proper L (begun a z o) k = held_proper L (begun a z o) k

  -- lists stand where their numbers say
  pub position_get_or : {row : List (Codes S)} → Ledger before row → (k : ℕ) → k < length row → number before row (get_or row k none) ≡ suc (suc k)
  position_get_or {row} (empty_row e) k h = let z : length row ≡ 0 = ap length e in absurd (omega arith)
  position_get_or {row} (one_more front a z o e L kz ko p new) k h = rw e (by (ℕ_discrete k (length front)) (position_get_or L k))
    where
      x : Codes S
      x = begun a z o

      more : length row ≡ suc (length front)
      more = ap length e ∙ length_snoc front (begun a z o)

      by : Dec (k ≡ length front) → (k < length front → number before front (get_or front k none) ≡ suc (suc k)) → number before (front ++ begun a z o ∷ []) (get_or (front ++ begun a z o ∷ []) k none) ≡ suc (suc k)
      by (yes f) below = rw (f, get_or_last front (begun a z o) none) (ap (λ n. suc (suc n)) (position_last front (begun a z o) new))
      by (no f) below =
          let small : k < length front = omega (arith, more) in
          rw (get_or_front front (begun a z o ∷ []) k none small)
          (number_front front (begun a z o ∷ []) (get_or front k none) (known_held front (get_or front k none) (listed_get_or front k none small)) ∙ below small)

  pub number_list : {row : List (Codes S)} → Ledger before row → (n : ℕ) → n ≤ length row + 1 → number before row (list_in row n) ≡ n
  number_list L zero h = refl
  number_list L (suc zero) h = refl
  number_list L (suc (suc k)) h = position_get_or L k (omega arith)

  -- laying down
  pub lay_held : (row : List (Codes S)) (a : S) (z o : Codes S) → listed before row (begun a z o) ≡ true → lay before row (begun a z o) ≡ row
  lay_held row a z o e = rw e

  pub lay_new : (row : List (Codes S)) (a : S) (z o : Codes S) → listed before row (begun a z o) ≡ false →
      lay before row (begun a z o) ≡ lay before (lay before row z) o ++ begun a z o ∷ []
  lay_new row a z o e = rw e

  pub lay_known : (row : List (Codes S)) (t : Codes S) → Known before row t → lay before row t ≡ row
  lay_known row none k = refl
  lay_known row blank k = refl
  lay_known row (begun a z o) k = lay_held row a z o k

  pub lay_adds : (row : List (Codes S)) (t : Codes S) → (more : List (Codes S)) × (lay before row t ≡ row ++ more)
  lay_adds row none = ([], sym (append-nil row))
  lay_adds row blank = ([], sym (append-nil row))
  lay_adds row (begun a z o) = by (both_ways (listed before row (begun a z o))) (lay_adds row z) (lay_adds (lay before row z) o)
    where
      by : (listed before row (begun a z o) ≡ true) ⊎ (listed before row (begun a z o) ≡ false) →
          (more : List (Codes S)) × (lay before row z ≡ row ++ more) →
          (more : List (Codes S)) × (lay before (lay before row z) o ≡ lay before row z ++ more) →
          (more : List (Codes S)) × (lay before row (begun a z o) ≡ row ++ more)
      by (inl e) outer inner = ([], lay_held row a z o e ∙ sym (append-nil row))
      by (inr e) outer inner = (
        outer.0 ++ (inner.0 ++ begun a z o ∷ []),
        lay_new row a z o e ∙ ap (λ r. r ++ begun a z o ∷ []) (inner.1 ∙ ap (λ r. r ++ inner.0) outer.1) ∙ simp append_assoc,
      )

  pub lay_knows : (row : List (Codes S)) (t : Codes S) → Known before (lay before row t) t
  lay_knows row none = tt
  lay_knows row blank = tt
  lay_knows row (begun a z o) = by (both_ways (listed before row (begun a z o)))
    where
      by : (listed before row (begun a z o) ≡ true) ⊎ (listed before row (begun a z o) ≡ false) → listed before (lay before row (begun a z o)) (begun a z o) ≡ true
      by (inl e) = rw (lay_held row a z o e) e
      by (inr e) = rw (lay_new row a z o e) (listed_last (lay before (lay before row z) o) (begun a z o))

  pub known_laid : (row : List (Codes S)) (t u : Codes S) → Known before row u → Known before (lay before row t) u
  known_laid row t u k = let r = lay_adds row t in rw r.1 (known_front row r.0 u k)

  -- what laying down adds are parts
  pub lay_parts : (row : List (Codes S)) (t u : Codes S) → listed before (lay before row t) u ≡ true → (listed before row u ≡ true) ⊎ Part t u
  lay_parts row none u h = inl h
  lay_parts row blank u h = inl h
  lay_parts row (begun a z o) u h = by (both_ways (listed before row (begun a z o))) (lay_parts row z u) (lay_parts (lay before row z) o u)
    where
      outer_in : (listed before row u ≡ true) ⊎ Part z u → (listed before row u ≡ true) ⊎ Part (begun a z o) u
      outer_in (inl k) = inl k
      outer_in (inr k) = inr (inr (inl k))

      inner_in : (listed before (lay before row z) u ≡ true → (listed before row u ≡ true) ⊎ Part z u) → (listed before (lay before row z) u ≡ true) ⊎ Part o u → (listed before row u ≡ true) ⊎ Part (begun a z o) u
      inner_in outer (inl k) = outer_in (outer k)
      inner_in outer (inr k) = inr (inr (inr k))

      last : (listed before (lay before row z) u ≡ true → (listed before row u ≡ true) ⊎ Part z u) →
          (listed before (lay before (lay before row z) o) u ≡ true → (listed before (lay before row z) u ≡ true) ⊎ Part o u) →
          (listed before (lay before (lay before row z) o) u ≡ true) ⊎ (begun a z o ≡ u) → (listed before row u ≡ true) ⊎ Part (begun a z o) u
      last outer inner (inl k) = inner_in outer (inner k)
      last outer inner (inr k) = inr (inl k)

      by : (listed before row (begun a z o) ≡ true) ⊎ (listed before row (begun a z o) ≡ false) →
          (listed before (lay before row z) u ≡ true → (listed before row u ≡ true) ⊎ Part z u) →
          (listed before (lay before (lay before row z) o) u ≡ true → (listed before (lay before row z) u ≡ true) ⊎ Part o u) → (listed before row u ≡ true) ⊎ Part (begun a z o) u
      by (inl e) outer inner = inl (rw (lay_held row a z o e) at h)
      by (inr e) outer inner = last outer inner (listed_cases (lay before (lay before row z) o) (begun a z o) u (rw (lay_new row a z o e) at h))

  -- what is laid down last is new unless it was there before
  pub still_new : (row : List (Codes S)) (a : S) (z o : Codes S) → listed before row (begun a z o) ≡ false → listed before (lay before (lay before row z) o) (begun a z o) ≡ false
  still_new row a z o e = away (both_ways (listed before (lay before (lay before row z) o) (begun a z o)))
    where
      from_row : (listed before row (begun a z o) ≡ true) ⊎ Part z (begun a z o) → ⊥
      from_row (inl k) = true_false k e
      from_row (inr k) = omega (arith, part_small z (begun a z o) k)

      from_outer : (listed before (lay before row z) (begun a z o) ≡ true) ⊎ Part o (begun a z o) → ⊥
      from_outer (inl k) = from_row (lay_parts row z (begun a z o) k)
      from_outer (inr k) = omega (arith, part_small o (begun a z o) k)

      away : (listed before (lay before (lay before row z) o) (begun a z o) ≡ true) ⊎ (listed before (lay before (lay before row z) o) (begun a z o) ≡ false) →
          listed before (lay before (lay before row z) o) (begun a z o) ≡ false
      away (inl k) = absurd (from_outer (lay_parts (lay before row z) o (begun a z o) k))
      away (inr k) = k

  -- a ledger stays one
  pub lay_ledger : (row : List (Codes S)) (t : Codes S) → Ledger before row → Proper before t → Ledger before (lay before row t)
  lay_ledger row none L p = L
  lay_ledger row blank L p = L
  lay_ledger row (begun a z o) L p = by (both_ways (listed before row (begun a z o)))
      (lay_ledger (lay before row z) o (lay_ledger row z L p.2) p.3)
    where
      by : (listed before row (begun a z o) ≡ true) ⊎ (listed before row (begun a z o) ≡ false) → Ledger before (lay before (lay before row z) o) → Ledger before (lay before row (begun a z o))
      by (inl e) M = rw (lay_held row a z o e) L
      by (inr e) M =
          one_more (lay before (lay before row z) o) a z o (lay_new row a z o e) M
          (known_laid (lay before row z) o z (lay_knows row z))
          (lay_knows (lay before row z) o)
          p
          (still_new row a z o e)
