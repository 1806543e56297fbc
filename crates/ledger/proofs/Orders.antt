-- The test for a code, and the codes of a list in order.
use Rattle.std.proofs.Common.{◌≡◌, Bool, true, false, ◌⊎◌, List, [], ◌∷◌, ◌++◌, map, sym, refl, ap, subst, inl, inr}
use mathlib.Core.Path.{subst⁻¹}
use mathlib.Core.List.Memᴰ
use mathlib.Core.List.{Memᴰ}
use Rattle.symbols.specs.Order.{Order, same_symbol}
use Rattle.ledger.specs.Lists.{Codes, none, blank, begun, Member, Proper}
use Rattle.ledger.specs.Operations.{has}
use Rattle.ledger.specs.Ordered.{code_before, blank_in, with_empty, later_codes, ordered, Ascending}
use Rattle.ledger.proofs.Reading.{true_false}
use Rattle.ledger.proofs.Rows.{both_ways}
use Rattle.ledger.proofs.Sets.{symbol_same, symbol_self, outer_comes, outer_never}

module _ {S : Type 0} (before : S → S → Bool) (order : Order before) where
  -- the test
  pub has_in : (t : Codes S) (c : List S) → has before t c ≡ true → Member t c
  has_in none c h = true_false h refl
  has_in blank [] h = refl
  has_in blank (s ∷ c) h = absurd (true_false h refl)
  has_in (begun a z o) [] h = inl (has_in z [] h)
  has_in (begun a z o) (s ∷ c) h = by (both_ways (same_symbol before a s)) (has_in o c) (has_in z (s ∷ c))
    where
      by : (same_symbol before a s ≡ true) ⊎ (same_symbol before a s ≡ false) → (has before o c ≡ true → Member o c) → (has before z (s ∷ c) ≡ true → Member z (s ∷ c)) → Member (begun a z o) (s ∷ c)
      by (inl e) inner outer = inr (c, ap (λ x. x ∷ c) (sym (symbol_same before order a s e)), inner (rw e at h))
      by (inr e) inner outer = inl (outer (rw e at h))

  pub in_has : (t : Codes S) → Proper before t → (c : List S) → Member t c → has before t c ≡ true
  in_has none p c m = absurd m
  in_has blank p c m = rw m
  in_has (begun a z o) p [] (inl m) = in_has z p.2 [] m
  in_has (begun a z o) p (s ∷ c) (inl m) = by (both_ways (same_symbol before a s)) (in_has z p.2 (s ∷ c) m)
    where
      by : (same_symbol before a s ≡ true) ⊎ (same_symbol before a s ≡ false) → has before z (s ∷ c) ≡ true → has before (begun a z o) (s ∷ c) ≡ true
      by (inl e) k = absurd (outer_never before order a z p.0 p.2 c (subst⁻¹ (λ x. Member z (x ∷ c)) (symbol_same before order a s e) m))
      by (inr e) k = rw e k
  in_has (begun a z o) p c (inr m) = rw (m.1, symbol_self before order a) (in_has o p.3 m.0 m.2)

  -- in order
  in_with : (b : Bool) (l : List (List S)) (c : List S) → Memᴰ c l → Memᴰ c (with_empty b l)
  in_with true l c m = Memᴰ.tail m
  in_with false l c m = m

  empty_with : (b : Bool) (l : List (List S)) (c : List S) → b ≡ true → c ≡ [] → Memᴰ c (with_empty b l)
  empty_with true l c e f = Memᴰ.head f
  empty_with false l c e f = absurd (true_false e refl)

  with_cases : (b : Bool) (l : List (List S)) (c : List S) → Memᴰ c (with_empty b l) → ((b ≡ true) × (c ≡ [])) ⊎ Memᴰ c l
  with_cases true l c (Memᴰ.head e) = inl (refl, e)
  with_cases true l c (Memᴰ.tail m) = inr m
  with_cases false l c m = inr m

  blank_member : (t : Codes S) → blank_in t ≡ true → Member t []
  blank_member none e = true_false e refl
  blank_member blank e = refl
  blank_member (begun a z o) e = inl (blank_member z e)

  later_member : (t : Codes S) (c : List S) → Memᴰ c (later_codes t) → Member t c
  later_member none c m = elim m [ ]
  later_member blank c m = elim m [ ]
  later_member (begun a z o) c m = by (later_member z c) (λ d. later_member o d) (Memᴰ.append_cases (map (λ x. a ∷ x) (ordered o)) m)
    where
      inside : (d : List S) → (Memᴰ d (later_codes o) → Member o d) → ((blank_in o ≡ true) × (d ≡ [])) ⊎ Memᴰ d (later_codes o) → Member o d
      inside d inner (inl e) = subst⁻¹ (Member o) e.1 (blank_member o e.0)
      inside d inner (inr k) = inner k

      by : (Memᴰ c (later_codes z) → Member z c) → ((d : List S) → Memᴰ d (later_codes o) → Member o d) →
          Memᴰ c (map (λ x. a ∷ x) (ordered o)) ⊎ Memᴰ c (later_codes z) → Member (begun a z o) c
      by outer inner (inl k) =
          let r = Memᴰ.of_map (λ (x : List S). a ∷ x) (ordered o) k in
          inr (r.0, sym r.2, inside r.0 (inner r.0) (with_cases (blank_in o) (later_codes o) r.0 r.1))
      by outer inner (inr k) = inl (outer k)

  pub ordered_member : (t : Codes S) (c : List S) → Memᴰ c (ordered t) → Member t c
  ordered_member t c m = by (with_cases (blank_in t) (later_codes t) c m)
    where
      by : ((blank_in t ≡ true) × (c ≡ [])) ⊎ Memᴰ c (later_codes t) → Member t c
      by (inl e) = subst⁻¹ (Member t) e.1 (blank_member t e.0)
      by (inr k) = later_member t c k

  pub member_ordered : (t : Codes S) (c : List S) → Member t c → Memᴰ c (ordered t)
  member_ordered none c m = absurd m
  member_ordered blank c m = Memᴰ.head m
  member_ordered (begun a z o) c (inl m) = by (with_cases (blank_in z) (later_codes z) c (member_ordered z c m))
    where
      by : ((blank_in z ≡ true) × (c ≡ [])) ⊎ Memᴰ c (later_codes z) → Memᴰ c (ordered (begun a z o))
      by (inl e) = empty_with (blank_in z) (later_codes (begun a z o)) c e.0 e.1
      by (inr k) = in_with (blank_in z) (later_codes (begun a z o)) c (Memᴰ.append_right (map (λ x. a ∷ x) (ordered o)) k)
  member_ordered (begun a z o) c (inr m) =
      in_with (blank_in z) (later_codes (begun a z o)) c
      (Memᴰ.append_left (later_codes z) (Memᴰ.cast m.1 (Memᴰ.map (λ (x : List S). a ∷ x) (member_ordered o m.0 m.2))))

  -- ascending
  not_empty : (t : Codes S) (c : List S) → Memᴰ c (later_codes t) → (s : S) × (rest : List S) × (c ≡ s ∷ rest)
  not_empty none c m = elim m [ ]
  not_empty blank c m = elim m [ ]
  not_empty (begun a z o) c m = by (not_empty z c) (Memᴰ.append_cases (map (λ x. a ∷ x) (ordered o)) m)
    where
      by : (Memᴰ c (later_codes z) → (s : S) × (rest : List S) × (c ≡ s ∷ rest)) →
          Memᴰ c (map (λ x. a ∷ x) (ordered o)) ⊎ Memᴰ c (later_codes z) → (s : S) × (rest : List S) × (c ≡ s ∷ rest)
      by outer (inl k) = let r = Memᴰ.of_map (λ (x : List S). a ∷ x) (ordered o) k in (a, r.0, sym r.2)
      by outer (inr k) = outer k

  ascending_append : (l m : List (List S)) → Ascending before l → Ascending before m →
      ((c d : List S) → Memᴰ c l → Memᴰ d m → code_before before c d ≡ true) → Ascending before (l ++ m)
  ascending_append [] m p q h = q
  ascending_append (c ∷ l) m p q h = (λ d k. by d (Memᴰ.append_cases l k), ascending_append l m p.1 q (λ x y kx ky. h x y (Memᴰ.tail kx) ky))
    where
      by : (d : List S) → Memᴰ d l ⊎ Memᴰ d m → code_before before c d ≡ true
      by d (inl k) = p.0 d k
      by d (inr k) = h c d (Memᴰ.head refl) k

  ascending_map : (a : S) (l : List (List S)) → Ascending before l → Ascending before (map (λ x. a ∷ x) l)
  ascending_map a [] p = tt
  ascending_map a (c ∷ l) p = (
    λ d k.
        let r = Memᴰ.of_map (λ (x : List S). a ∷ x) l k in
        rw (← r.2, order.irreflexive a) (p.0 r.0 r.1),
    ascending_map a l p.1,
  )

  ascending_with : (b : Bool) (t : Codes S) → Ascending before (later_codes t) → Ascending before (with_empty b (later_codes t))
  ascending_with false t p = p
  ascending_with true t p = (λ d k. let r = not_empty t d k in rw r.2, p)

  later_ascending : (t : Codes S) → Proper before t → Ascending before (later_codes t)
  later_ascending none p = tt
  later_ascending blank p = tt
  later_ascending (begun a z o) p =
      ascending_append (map (λ x. a ∷ x) (ordered o)) (later_codes z)
      (ascending_map a (ordered o) (ascending_with (blank_in o) o (later_ascending o p.3)))
      (later_ascending z p.2)
      (λ c d kc kd.
      let r = Memᴰ.of_map (λ (x : List S). a ∷ x) (ordered o) kc in
      let q = not_empty z d kd in
      let first : before a q.0 ≡ true = outer_comes before order a z p.0 p.2 q.0 q.1 (subst (Member z) q.2 (later_member z d kd)) in
      rw (← r.2, q.2, first))

  pub ordered_ascending : (t : Codes S) → Proper before t → Ascending before (ordered t)
  ordered_ascending t p = ascending_with (blank_in t) t (later_ascending t p)
