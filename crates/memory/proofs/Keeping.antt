-- Marked ones move to the front, one after another.
use Rattle.std.proofs.Common.{◌≡◌, ℕ, ◌+◌, ◌<◌, ◌≤◌, Bool, true, false, List, [], ◌∷◌, ◌++◌, map, length, get_or, take, drop, set, sym, refl, ap, ◌∙◌, arith}
use Rattle.std.proofs.lemmas.List.{append-nil, length-set, length-take-le, take_more, take_more_set, take_all, drop-drop, drop-set-lt, get_or-drop, get_or_default, map-append}
use Rattle.ledger.specs.Gather.{keep}

-- ys began as xs; the marked ones of the first i stand, changed by f, in the first `to` places, and from i on ys is as it
-- was
pub record Keeps {A : Type 0} (f : A → A) (ms : List Bool) (xs ys : List A) (to i : ℕ) : Type 0 where
  pub front : take to ys ≡ map f (keep (take i ms) (take i xs))
  pub rest : drop i ys ≡ drop i xs
  pub behind : to ≤ i
  pub long : length ys ≡ length xs

module _ {A : Type 0} where
  keep_push : (ms : List Bool) (xs : List A) (m : Bool) (x : A) → length ms ≡ length xs → keep (ms ++ m ∷ []) (xs ++ x ∷ []) ≡ keep ms xs ++ keep (m ∷ []) (x ∷ [])
  keep_push [] [] m x h = refl
  keep_push [] (y ∷ xs) m x h = absurd (omega arith)
  keep_push (n ∷ ms) [] m x h = absurd (omega arith)
  keep_push (true ∷ ms) (y ∷ xs) m x h = ap (λ l. y ∷ l) (keep_push ms xs m x (omega arith))
  keep_push (false ∷ ms) (y ∷ xs) m x h = keep_push ms xs m x (omega arith)

  keep_more : (ms : List Bool) (xs : List A) (i : ℕ) (m : Bool) (x : A) → i < length ms → i < length xs → get_or ms i false ≡ m → x ≡ get_or xs i x →
      keep (take (i + 1) ms) (take (i + 1) xs) ≡ keep (take i ms) (take i xs) ++ keep (m ∷ []) (x ∷ [])
  keep_more ms xs i m x h k e f =
      let p : take (i + 1) ms ≡ take i ms ++ m ∷ [] = take_more ms i false h ∙ ap (λ y. take i ms ++ y ∷ []) e in
      let q : take (i + 1) xs ≡ take i xs ++ x ∷ [] = take_more xs i x k ∙ ap (λ y. take i xs ++ y ∷ []) (sym f) in
      rw (p, q) (keep_push (take i ms) (take i xs) m x (length-take-le i ms (omega arith) ∙ sym (length-take-le i xs (omega arith))))

  keep_more_no : (ms : List Bool) (xs : List A) (i : ℕ) → i < length ms → i < length xs → get_or ms i false ≡ false → keep (take i ms) (take i xs) ≡ keep (take (i + 1) ms) (take (i + 1) xs)
  keep_more_no ms [] i h k e = absurd (omega arith)
  keep_more_no ms (x ∷ xs) i h k e =
      sym (append-nil (keep (take i ms) (take i (x ∷ xs)))) ∙
      sym (keep_more ms (x ∷ xs) i false (get_or (x ∷ xs) i x) h k e (get_or_default (x ∷ xs) i x (get_or (x ∷ xs) i x) k))

  -- what stands at i is as it was
  there : (xs ys : List A) (i : ℕ) (x : A) → drop i ys ≡ drop i xs → x ≡ get_or ys i x → x ≡ get_or xs i x
  there xs ys i x e f =
      let z : i + 0 ≡ i = omega arith in
      f ∙ rw z at (sym (get_or-drop i ys 0 x) ∙ ap (λ l. get_or l 0 x) e ∙ get_or-drop i xs 0 x)

  rest_more : (xs ys : List A) (i : ℕ) → drop i ys ≡ drop i xs → drop (i + 1) ys ≡ drop (i + 1) xs
  rest_more xs ys i e = sym (drop-drop 1 i ys) ∙ ap (drop 1) e ∙ drop-drop 1 i xs

  module _ (f : A → A) (ms : List Bool) (xs : List A) where
    pub keeps_none : Keeps f ms xs xs 0 0
    keeps_none = record { front = refl; rest = refl; behind = omega arith; long = refl }

    -- an unmarked one is passed over
    pub keeps_no : (ys : List A) (to i : ℕ) → i < length ms → i < length xs → get_or ms i false ≡ false → Keeps f ms xs ys to i → Keeps f ms xs ys to (i + 1)
    keeps_no ys to i h k e q =
        record {
          front = q.front ∙ ap (map f) (keep_more_no ms xs i h k e);
          rest = rest_more xs ys i q.rest;
          behind = omega (arith, q.behind);
          long = q.long;
        }

    -- a marked one is put behind those before it
    pub keeps_yes : (ys : List A) (to i : ℕ) (x : A) → i < length ms → i < length xs → get_or ms i false ≡ true → x ≡ get_or ys i x → Keeps f ms xs ys to i → Keeps f ms xs (set ys to (f x)) (to + 1) (i + 1)
    keeps_yes ys to i x h k e p q =
        record {
          front =
              take_more_set ys to (f x) (omega (arith, q.long, q.behind)) ∙
              ap (λ l. l ++ f x ∷ []) q.front ∙
              sym (map-append f (keep (take i ms) (take i xs)) (x ∷ [])) ∙
              ap (map f) (sym (keep_more ms xs i true x h k e (there xs ys i x q.rest p)));
          rest = drop-set-lt (i + 1) ys to (f x) (omega (arith, q.behind)) ∙ rest_more xs ys i q.rest;
          behind = omega (arith, q.behind);
          long = length-set ys to (f x) ∙ q.long;
        }

    pub keeps_all : (ys : List A) (to i : ℕ) → length ms ≤ i → Keeps f ms xs ys to i → take to ys ≡ map f (keep ms (take i xs))
    keeps_all ys to i h q = q.front ∙ ap (λ l. map f (keep l (take i xs))) (take_all i ms h)
