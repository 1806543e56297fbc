-- How the codes of a vertex fall apart: those that begin with its label, and the others. Nothing here asks that links lead down.
use Rattle.std.proofs.Common.{◌≡◌, ℕ, Bool, true, false, ◌⊎◌, List, [], ◌∷◌, Some, None, Option, sym, refl, ap, ◌∙◌, subst, inl, inr, arith}
use Rattle.symbols.specs.Order.{Order}
use Rattle.ledger.specs.declared.Vertex.{Vertex}
use Rattle.ledger.specs.Diagrams.{look, Has, ends, passes, takes, SameCodes, Later}

pub some_same : {A : Type 0} {x : Option A} {a b : A} → x ≡ Some a → x ≡ Some b → a ≡ b
some_same {x = x} p q = cc

pub none_some : {A : Type 0} {x : Option A} {a : A} → x ≡ None → x ≡ Some a → ⊥
none_some p q = let z : ◌≡◌ {A = ℕ} 0 1 = cc in omega arith

pub nil_cons : {A : Type 0} {c rest : List A} {a : A} → c ≡ [] → c ≡ a ∷ rest → ⊥
nil_cons p q = let z : ◌≡◌ {A = ℕ} 0 1 = cc in omega arith

pub head_same : {A : Type 0} {c r s : List A} {a b : A} → c ≡ a ∷ r → c ≡ b ∷ s → a ≡ b
head_same p q = cc

pub tail_same : {A : Type 0} {c r s : List A} {a b : A} → c ≡ a ∷ r → c ≡ b ∷ s → r ≡ s
tail_same p q = cc

pub true_false : {b : Bool} → b ≡ true → b ≡ false → ⊥
true_false p q = let z : ◌≡◌ {A = ℕ} 0 1 = cc in omega arith

pub has_at : {S : Type 0} {vs : List (Vertex S)} {n : ℕ} {c d : List S} → c ≡ d → Has vs n c → Has vs n d
has_at {vs = vs} {n = n} e h = subst (λ x. Has vs n x) e h

pub has_on : {S : Type 0} {vs : List (Vertex S)} {m n : ℕ} {c : List S} → m ≡ n → Has vs m c → Has vs n c
has_on {vs = vs} {c = c} e h = subst (λ x. Has vs x c) e h

pub no_vertex_1 : {S : Type 0} (vs : List (Vertex S)) {n : ℕ} {v : Vertex S} → n ≡ 1 → look vs n ≡ Some v → ⊥
no_vertex_1 vs e p = none_some refl (ap (look vs) (sym e) ∙ p)

-- terminal 0 has no code
pub has_0 : {S : Type 0} {vs : List (Vertex S)} {n : ℕ} {c : List S} → n ≡ 0 → Has vs n c → ⊥
has_0 e (ends f g) = omega arith
has_0 {vs = vs} e (passes v p h) = none_some refl (ap (look vs) (sym e) ∙ p)
has_0 {vs = vs} e (takes v rest p f h) = none_some refl (ap (look vs) (sym e) ∙ p)

-- terminal 1 has the empty code alone
pub has_1 : {S : Type 0} {vs : List (Vertex S)} {n : ℕ} {c : List S} → n ≡ 1 → Has vs n c → c ≡ []
has_1 e (ends f g) = g
has_1 {vs = vs} e (passes v p h) = absurd (no_vertex_1 vs e p)
has_1 {vs = vs} e (takes v rest p f h) = absurd (no_vertex_1 vs e p)

module _ {S : Type 0} (before : S → S → Bool) (order : Order before) where
  pub not_both : (a b : S) → before a b ≡ true → before b a ≡ true → ⊥
  not_both a b p q = true_false (order.transitive a b a p q) (order.irreflexive a)

  -- a label that a symbol follows or equals
  abbrev pub UpTo : S → S → Type 0
  UpTo a s = (a ≡ s) ⊎ (before a s ≡ true)

  pub upto_after : (a b s : S) → before a b ≡ true → UpTo b s → before a s ≡ true
  upto_after a b s p (inl e) = subst (λ x. before a x ≡ true) e p
  upto_after a b s p (inr q) = order.transitive a b s p q

  pub upto_not : (a s : S) → before s a ≡ true → UpTo a s → ⊥
  upto_not a s p (inl e) = true_false p (subst (λ x. before s x ≡ false) (sym e) (order.irreflexive s))
  upto_not a s p (inr q) = not_both a s q p

  pub upto_both : (a b : S) → UpTo a b → UpTo b a → a ≡ b
  upto_both a b (inl e) q = e
  upto_both a b (inr p) (inl e) = sym e
  upto_both a b (inr p) (inr q) = absurd (not_both a b p q)

  module _ (vs : List (Vertex S)) (later : Later before vs) where
    -- a code that begins with s is a vertex's, whose label is s or earlier
    pub first : {n : ℕ} {c : List S} (s : S) (rest : List S) → Has vs n c → c ≡ s ∷ rest → (v : Vertex S) × (look vs n ≡ Some v) × UpTo v.label s
    first s rest (ends f g) e = absurd (nil_cons g e)
    first {n} s rest (passes v p h) e =
        let r = first s rest h e in
        (v, p, inr (upto_after v.label r.0.label s (later n v r.0 p r.1) r.2))
    first s rest (takes v rest' p f h) e = (v, p, inl (head_same f e))

    -- no code of the zero link begins with the label, or with what comes before it
    pub outer_after : (n : ℕ) (v : Vertex S) → look vs n ≡ Some v → (s : S) (rest : List S) → Has vs v.zero (s ∷ rest) → before v.label s ≡ true
    outer_after n v p s rest h =
        let r = first s rest h refl in
        upto_after v.label r.0.label s (later n v r.0 p r.1) r.2

    pub outer_not : (n : ℕ) (v : Vertex S) → look vs n ≡ Some v → (rest : List S) → Has vs v.zero (v.label ∷ rest) → ⊥
    outer_not n v p rest h = true_false (outer_after n v p v.label rest h) (order.irreflexive v.label)

    -- the codes that begin with the label are the one link's
    pub inner_back : {n : ℕ} {c : List S} (v : Vertex S) → look vs n ≡ Some v → (rest : List S) → Has vs n c → c ≡ v.label ∷ rest → Has vs v.one rest
    inner_back v p rest (ends f g) e = absurd (no_vertex_1 vs f p)
    inner_back {n} v p rest (passes w q h) e =
        let w_v : w ≡ v = some_same q p in
        absurd (outer_not n v p rest (has_at e (has_on (ap (λ (x : Vertex S). x.zero) w_v) h)))
    inner_back v p rest (takes w rest' q f h) e =
        let w_v : w ≡ v = some_same q p in
        has_at (tail_same f e) (has_on (ap (λ (x : Vertex S). x.one) w_v) h)

    -- the other codes are the zero link's
    pub outer_back : {n : ℕ} {c : List S} (v : Vertex S) → look vs n ≡ Some v → Has vs n c → ((rest : List S) → c ≡ v.label ∷ rest → ⊥) → Has vs v.zero c
    outer_back v p (ends f g) other = absurd (no_vertex_1 vs f p)
    outer_back v p (passes w q h) other = has_on (ap (λ (x : Vertex S). x.zero) (some_same q p)) h
    outer_back v p (takes w rest q f h) other = absurd (other rest (f ∙ ap (λ (x : Vertex S). x.label ∷ rest) (some_same q p)))

  -- Two numbers of two rows with the same codes: their labels agree where both one links have a code, and then the links' codes agree.
  module _ (vs ws : List (Vertex S)) (later_v : Later before vs) (later_w : Later before ws) where
    module _ (m n : ℕ) (v w : Vertex S) (at_m : look vs m ≡ Some v) (at_n : look ws n ≡ Some w) (same : SameCodes vs m ws n) where
      pub labels_agree : (c d : List S) → Has vs v.one c → Has ws w.one d → v.label ≡ w.label
      labels_agree c d h k =
          let r = first ws later_w v.label c ((same (v.label ∷ c)).0 (takes v c at_m refl h)) refl in
          let q = first vs later_v w.label d ((same (w.label ∷ d)).1 (takes w d at_n refl k)) refl in
          let r_w : r.0 ≡ w = some_same r.1 at_n in
          let q_v : q.0 ≡ v = some_same q.1 at_m in
          upto_both v.label w.label
          (subst (λ (x : Vertex S). UpTo x.label w.label) q_v q.2)
          (subst (λ (x : Vertex S). UpTo x.label v.label) r_w r.2)

      module _ (labels : v.label ≡ w.label) where
        pub inners_agree : SameCodes vs v.one ws w.one
        inners_agree c = (
          λ h. inner_back ws later_w w at_n c ((same (v.label ∷ c)).0 (takes v c at_m refl h)) (ap (λ x. x ∷ c) labels),
          λ h. inner_back vs later_v v at_m c ((same (w.label ∷ c)).1 (takes w c at_n refl h)) (ap (λ x. x ∷ c) (sym labels)),
        )

        pub outers_agree : SameCodes vs v.zero ws w.zero
        outers_agree c = (
          λ h. outer_back ws later_w w at_n ((same c).0 (passes v at_m h)) (λ rest e. outer_not vs later_v m v at_m rest (has_at (e ∙ ap (λ x. x ∷ rest) (sym labels)) h)),
          λ h. outer_back vs later_v v at_m ((same c).1 (passes w at_n h)) (λ rest e. outer_not ws later_w n w at_n rest (has_at (e ∙ ap (λ x. x ∷ rest) labels) h)),
        )
