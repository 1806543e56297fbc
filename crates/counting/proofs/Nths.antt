-- The codes of a list one by one, from those of its outer and its inner list.
use Rattle.std.proofs.Common.{◌≡◌, ℕ, zero, suc, ◌+◌, ◌<◌, Bool, true, false, List, [], ◌∷◌, ◌++◌, map, length, Some, sym, refl, ap, ◌∙◌, arith}
use mathlib.Core.List.{Memᴰ}
use lib.ListN.{length-map}
use Rattle.std.specs.List.{slice_get}
use Rattle.std.specs.Option.{option_map}
use Rattle.ledger.specs.Lists.{Codes, begun}
use Rattle.ledger.specs.Ordered.{ordered, later_codes, with_empty, blank_in}
use mir.Val.{bool_byte}
use Rattle.counting.proofs.Sizes.{length_begun}

nth_left : {A : Type 0} (xs ys : List A) (k : ℕ) → k < length xs → slice_get (xs ++ ys) k ≡ slice_get xs k
nth_left [] ys k h = absurd (omega arith)
nth_left (x ∷ xs) ys zero h = refl
nth_left (x ∷ xs) ys (suc k) h = nth_left xs ys k (omega arith)

nth_right : {A : Type 0} (xs ys : List A) (k : ℕ) → slice_get (xs ++ ys) (length xs + k) ≡ slice_get ys k
nth_right [] ys k = let e : 0 + k ≡ k = omega arith in ap (slice_get ys) e
nth_right (x ∷ xs) ys k =
    let e : suc (length xs) + k ≡ suc (length xs + k) = omega arith in
    ap (slice_get (x ∷ (xs ++ ys))) e ∙ nth_right xs ys k

nth_map : {A B : Type 0} (f : A → B) (xs : List A) (k : ℕ) → slice_get (map f xs) k ≡ option_map f (slice_get xs k)
nth_map f [] k = refl
nth_map f (x ∷ xs) zero = refl
nth_map f (x ∷ xs) (suc k) = nth_map f xs k

pub nth_in : {A : Type 0} (xs : List A) (k : ℕ) (x : A) → slice_get xs k ≡ Some x → Memᴰ x xs
nth_in [] k x e = absurd (let z : ◌≡◌ {A = ℕ} 0 1 = cc in omega arith)
nth_in (y ∷ xs) zero x e = Memᴰ.head (cc)
nth_in (y ∷ xs) (suc k) x e = Memᴰ.tail (nth_in xs k x e)

pub nth_some : {A : Type 0} (xs : List A) (k : ℕ) → k < length xs → (x : A) × (slice_get xs k ≡ Some x)
nth_some [] k h = absurd (omega arith)
nth_some (x ∷ xs) zero h = (x, refl)
nth_some (x ∷ xs) (suc k) h = nth_some xs k (omega arith)

nth_with : {S : Type 0} (b : Bool) (l : List (List S)) (k : ℕ) → slice_get (with_empty b l) (bool_byte b + k) ≡ slice_get l k
nth_with true l k = let e : 1 + k ≡ suc k = omega arith in ap (slice_get ([] ∷ l)) e
nth_with false l k = let e : 0 + k ≡ k = omega arith in ap (slice_get l) e

-- after the empty code come those that begin with the head
pub nth_inner : {S : Type 0} (a : S) (z o : Codes S) (k : ℕ) → k < length (ordered o) →
    slice_get (ordered (begun a z o)) (bool_byte (blank_in z) + k) ≡ option_map (λ c. a ∷ c) (slice_get (ordered o) k)
nth_inner a z o k h =
    let l = length-map (ordered o) (λ c. a ∷ c) in
    nth_with (blank_in z) (map (λ c. a ∷ c) (ordered o) ++ later_codes z) k ∙
    nth_left (map (λ c. a ∷ c) (ordered o)) (later_codes z) k (omega arith) ∙
    nth_map (λ c. a ∷ c) (ordered o) k

-- then the others
pub nth_outer : {S : Type 0} (a : S) (z o : Codes S) (k : ℕ) →
    slice_get (ordered (begun a z o)) (bool_byte (blank_in z) + (length (ordered o) + k)) ≡ slice_get (ordered z) (bool_byte (blank_in z) + k)
nth_outer a z o k =
    nth_with (blank_in z) (map (λ c. a ∷ c) (ordered o) ++ later_codes z) (length (ordered o) + k) ∙
    ap (λ n. slice_get (map (λ c. a ∷ c) (ordered o) ++ later_codes z) (n + k)) (sym (length-map (ordered o) (λ c. a ∷ c))) ∙
    nth_right (map (λ c. a ∷ c) (ordered o)) (later_codes z) k ∙
    sym (nth_with (blank_in z) (later_codes z) k)

module _ {S : Type 0} (t : Codes S) (a : S) (z o : Codes S) (is : t ≡ begun a z o) (k later : ℕ) (at_k : k ≡ bool_byte (blank_in t) + later) where
  -- the same with a list that is known to be begun
  past_empty : k ≡ bool_byte (blank_in z) + later
  past_empty = at_k ∙ ap (λ u. bool_byte (blank_in u) + later) is

  pub turn_inner : later < length (ordered o) → slice_get (ordered t) k ≡ option_map (λ c. a ∷ c) (slice_get (ordered o) later)
  turn_inner h = ap (λ u. slice_get (ordered u) k) is ∙ ap (slice_get (ordered (begun a z o))) past_empty ∙ nth_inner a z o later h

  module _ (left : ℕ) (from : later ≡ length (ordered o) + left) where
    pub turn_outer : slice_get (ordered t) k ≡ slice_get (ordered z) (bool_byte (blank_in t) + left)
    turn_outer =
        ap (λ u. slice_get (ordered u) k) is ∙ ap (slice_get (ordered (begun a z o))) (past_empty ∙ ap (λ n. bool_byte (blank_in z) + n) from) ∙
        nth_outer a z o left ∙ ap (λ u. slice_get (ordered z) (bool_byte (blank_in u) + left)) (sym is)

    pub outer_stands : k < length (ordered t) → bool_byte (blank_in t) + left < length (ordered z)
    outer_stands h = let size = ap (λ u. length (ordered u)) is ∙ length_begun a z o in omega arith
