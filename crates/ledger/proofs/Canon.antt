-- In a sound row of vertices two good numbers with the same codes are one.
use Rattle.std.proofs.Common.{◌≡◌, ℕ, zero, suc, ◌<◌, Bool, ◌≢◌, List, [], ◌∷◌, length, Some, sym, refl, ap, ◌∙◌, arith}
use Rattle.std.specs.List.{slice_get}
use Rattle.symbols.specs.Order.{Order}
use Rattle.ledger.specs.declared.Vertex.{Vertex}
use Rattle.ledger.specs.Diagrams.{look, Has, ends, takes, SameCodes, Good, Sound}
use Rattle.ledger.proofs.Reading.{none_some, nil_cons, has_0, has_1, has_on, labels_agree, inners_agree, outers_agree}

-- what a good number is
pub data Kind {S : Type 0} (vs : List (Vertex S)) (n : ℕ) : Type 0 where
  is_0 : n ≡ 0 → Kind vs n
  is_1 : n ≡ 1 → Kind vs n
  is_vertex : (v : Vertex S) → look vs n ≡ Some v → Kind vs n

nth_some : {A : Type 0} (xs : List A) (k : ℕ) → k < length xs → (x : A) × (slice_get xs k ≡ Some x)
nth_some [] k h = absurd (omega arith)
nth_some (x ∷ xs) zero h = (x, refl)
nth_some (x ∷ xs) (suc k) h = nth_some xs k (omega arith)

nth_below : {A : Type 0} (xs : List A) (k : ℕ) (x : A) → slice_get xs k ≡ Some x → k < length xs
nth_below [] k x e = absurd (none_some refl e)
nth_below (y ∷ xs) zero x e = omega arith
nth_below (y ∷ xs) (suc k) x e = let h = nth_below xs k x e in omega arith

pub kind : {S : Type 0} (vs : List (Vertex S)) (n : ℕ) → Good vs n → Kind vs n
kind vs zero h = is_0 refl
kind vs (suc zero) h = is_1 refl
kind vs (suc (suc k)) h = let r = nth_some vs k (omega arith) in is_vertex r.0 r.1

pub vertex_good : {S : Type 0} (vs : List (Vertex S)) (n : ℕ) (v : Vertex S) → look vs n ≡ Some v → Good vs n
vertex_good vs zero v e = omega arith
vertex_good vs (suc zero) v e = omega arith
vertex_good vs (suc (suc k)) v e = let h = nth_below vs k v e in omega arith

module _ {S : Type 0} (before : S → S → Bool) (order : Order before) (vs : List (Vertex S)) (sound : Sound before vs) where
  -- every good number but 0 has a code
  code_upto : (b n : ℕ) → n < b → Good vs n → n ≢ 0 → (c : List S) × Has vs n c
  code_upto zero n h g z = absurd (omega arith)
  code_upto (suc b) n h g z = by (kind vs n g) (code_upto b)
    where
      by : Kind vs n → ((m : ℕ) → m < b → Good vs m → m ≢ 0 → (c : List S) × Has vs m c) → (c : List S) × Has vs n c
      by (is_0 e) below = absurd (z e)
      by (is_1 e) below = ([], ends e refl)
      by (is_vertex v p) below =
          let o : v.one < n = sound.formed.one_below n v p in
          let r = below v.one (omega arith) (omega arith) (sound.formed.one_not_0 n v p) in
          (v.label ∷ r.0, takes v r.0 p refl r.1)

  pub code_of : (n : ℕ) → Good vs n → n ≢ 0 → (c : List S) × Has vs n c
  code_of n g z = code_upto (suc n) n (omega arith) g z

  pub inner_code : (n : ℕ) (v : Vertex S) → look vs n ≡ Some v → (c : List S) × Has vs v.one c
  inner_code n v p =
      let o : v.one < n = sound.formed.one_below n v p in
      let g : Good vs n = vertex_good vs n v p in
      code_of v.one (omega arith) (sound.formed.one_not_0 n v p)

  vertex_code : (n : ℕ) (v : Vertex S) → look vs n ≡ Some v → (rest : List S) × Has vs n (v.label ∷ rest)
  vertex_code n v p = let r = inner_code n v p in (r.0, takes v r.0 p refl r.1)

  vertex_same : {v w : Vertex S} → v.label ≡ w.label → v.zero ≡ w.zero → v.one ≡ w.one → v ≡ w
  vertex_same l z o i = record { label = l i; zero = z i; one = o i }

  same_upto : (b m n : ℕ) → m < b → Good vs m → Good vs n → SameCodes vs m vs n → m ≡ n
  same_upto zero m n h gm gn same = absurd (omega arith)
  same_upto (suc b) m n h gm gn same = by (kind vs m gm) (kind vs n gn) (same_upto b)
    where
      by : Kind vs m → Kind vs n → ((m n : ℕ) → m < b → Good vs m → Good vs n → SameCodes vs m vs n → m ≡ n) → m ≡ n
      by (is_0 e) (is_0 f) below = omega arith
      by (is_0 e) (is_1 f) below = absurd (has_0 e ((same []).1 (ends f refl)))
      by (is_0 e) (is_vertex w q) below = let r = vertex_code n w q in absurd (has_0 e ((same _).1 r.1))
      by (is_1 e) (is_0 f) below = absurd (has_0 f ((same []).0 (ends e refl)))
      by (is_1 e) (is_1 f) below = omega arith
      by (is_1 e) (is_vertex w q) below = let r = vertex_code n w q in absurd (nil_cons (has_1 e ((same _).1 r.1)) refl)
      by (is_vertex v p) (is_0 f) below = let r = vertex_code m v p in absurd (has_0 f ((same _).0 r.1))
      by (is_vertex v p) (is_1 f) below = let r = vertex_code m v p in absurd (nil_cons (has_1 f ((same _).0 r.1)) refl)
      by (is_vertex v p) (is_vertex w q) below =
          let l : v.label ≡ w.label = labels_agree before order vs vs sound.formed.later sound.formed.later m n v w p q same _ _ (inner_code m v p).1 (inner_code n w q).1 in
          let vo : v.one < m = sound.formed.one_below m v p in
          let wo : w.one < n = sound.formed.one_below n w q in
          let vz : v.zero < m = sound.formed.zero_below m v p in
          let wz : w.zero < n = sound.formed.zero_below n w q in
          let o : v.one ≡ w.one = below v.one w.one (omega arith) (omega arith) (omega arith) (inners_agree before order vs vs sound.formed.later sound.formed.later m n v w p q same l) in
          let z : v.zero ≡ w.zero = below v.zero w.zero (omega arith) (omega arith) (omega arith) (outers_agree before order vs vs sound.formed.later sound.formed.later m n v w p q same l) in
          sound.different m n w (p ∙ ap Some (vertex_same l z o)) q

  pub same_number : (m n : ℕ) → Good vs m → Good vs n → SameCodes vs m vs n → m ≡ n
  same_number m n gm gn same = same_upto (suc m) m n (omega arith) gm gn same

  pub number_same : (m n : ℕ) → m ≡ n → SameCodes vs m vs n
  number_same m n e c = (has_on e, has_on (sym e))
