-- Lists that grow at the end.
use Rattle.std.proofs.Common.{◌≡◌, ℕ, zero, suc, ◌<◌, ◌⊎◌, List, [], ◌∷◌, ◌++◌, length, get_or, Some, sym, refl, ap, subst, inl, inr, append_assoc, append-nil, arith}
use Rattle.std.specs.List.{slice_get}
use Rattle.ledger.proofs.Reading.{none_some, some_same}

module _ {A : Type 0} (P : List A → Type 0) (start : P []) (more : (xs : List A) (x : A) → P xs → P (xs ++ x ∷ [])) where
  grown : (done xs : List A) → P done → P (done ++ xs)
  grown done [] p = subst P (sym (append-nil done)) p
  grown done (x ∷ xs) p = subst P (append_assoc done (x ∷ []) xs) (grown (done ++ x ∷ []) xs (more done x p))

  pub by_ends : (xs : List A) → P xs
  by_ends xs = grown [] xs start

module _ {A : Type 0} where
  pub get_or_front : (xs ys : List A) (k : ℕ) (d : A) → k < length xs → get_or (xs ++ ys) k d ≡ get_or xs k d
  get_or_front [] ys k d h = absurd (omega arith)
  get_or_front (x ∷ xs) ys zero d h = refl
  get_or_front (x ∷ xs) ys (suc k) d h = get_or_front xs ys k d (omega arith)

  pub get_or_last : (xs : List A) (x d : A) → get_or (xs ++ x ∷ []) (length xs) d ≡ x
  get_or_last [] x d = refl
  get_or_last (y ∷ xs) x d = get_or_last xs x d

  pub nth_front : (xs ys : List A) (k : ℕ) (x : A) → slice_get xs k ≡ Some x → slice_get (xs ++ ys) k ≡ Some x
  nth_front [] ys k x e = absurd (none_some refl e)
  nth_front (y ∷ xs) ys zero x e = e
  nth_front (y ∷ xs) ys (suc k) x e = nth_front xs ys k x e

  pub nth_last : (xs : List A) (x : A) → slice_get (xs ++ x ∷ []) (length xs) ≡ Some x
  nth_last [] x = refl
  nth_last (y ∷ xs) x = nth_last xs x

  -- an element of a list with one more stands in the front, or is the last
  pub nth_cases : (xs : List A) (x : A) (k : ℕ) (y : A) → slice_get (xs ++ x ∷ []) k ≡ Some y → (slice_get xs k ≡ Some y) ⊎ ((k ≡ length xs) × (x ≡ y))
  nth_cases [] x zero y e = inr (refl, some_same refl e)
  nth_cases [] x (suc k) y e = absurd (none_some refl e)
  nth_cases (z ∷ xs) x zero y e = inl e
  nth_cases (z ∷ xs) x (suc k) y e = by (nth_cases xs x k y e)
    where
      by : (slice_get xs k ≡ Some y) ⊎ ((k ≡ length xs) × (x ≡ y)) → (slice_get xs k ≡ Some y) ⊎ ((suc k ≡ suc (length xs)) × (x ≡ y))
      by (inl p) = inl p
      by (inr p) = inr (ap suc p.0, p.1)

  pub length_snoc : (xs : List A) (x : A) → length (xs ++ x ∷ []) ≡ suc (length xs)
  length_snoc [] x = refl
  length_snoc (y ∷ xs) x = ap suc (length_snoc xs x)
