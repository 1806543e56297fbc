-- A proper list is its codes: two with the same codes are equal. And the test `same` is equality.
use Rattle.std.proofs.Common.{◌≡◌, Bool, true, false, not, ◌&&◌, List, [], ◌∷◌, sym, refl, ap, ◌∙◌, subst, inl, inr}
use Rattle.symbols.specs.Order.{Order, same_symbol}
use Rattle.ledger.specs.Lists.{Codes, none, blank, begun, Member, Comes, SomeCode, Proper, SameMembers, same}
use Rattle.ledger.proofs.Reading.{nil_cons, head_same, tail_same, true_false, UpTo, upto_after, upto_both}

pub and_left : (a b : Bool) → (a && b) ≡ true → a ≡ true
and_left true b e = refl
and_left false b e = e

pub and_right : (a b : Bool) → (a && b) ≡ true → b ≡ true
and_right true b e = e
and_right false b e = absurd (true_false e refl)

not_true : (a : Bool) → not a ≡ true → a ≡ false
not_true true e = sym e
not_true false e = refl

module _ {S : Type 0} where
  pub begun_same : {a b : S} {z y o p : Codes S} → a ≡ b → z ≡ y → o ≡ p → begun a z o ≡ begun b y p
  begun_same l z o i = begun (l i) (z i) (o i)

module _ {S : Type 0} (before : S → S → Bool) (order : Order before) where
  -- the test
  pub symbol_same : (a b : S) → same_symbol before a b ≡ true → a ≡ b
  symbol_same a b e =
      order.connected a b (not_true _ (and_left (not (before a b)) (not (before b a)) e)) (not_true _ (and_right (not (before a b)) (not (before b a)) e))

  pub symbol_self : (a : S) → same_symbol before a a ≡ true
  symbol_self a = rw (order.irreflexive a)

  pub same_equal : (t u : Codes S) → same before t u ≡ true → t ≡ u
  same_equal none none e = refl
  same_equal none blank e = absurd (true_false e refl)
  same_equal none (begun b y p) e = absurd (true_false e refl)
  same_equal blank none e = absurd (true_false e refl)
  same_equal blank blank e = refl
  same_equal blank (begun b y p) e = absurd (true_false e refl)
  same_equal (begun a z o) none e = absurd (true_false e refl)
  same_equal (begun a z o) blank e = absurd (true_false e refl)
  same_equal (begun a z o) (begun b y p) e =
      let l = and_left (same_symbol before a b) (same before z y && same before o p) e in
      let r = and_right (same_symbol before a b) (same before z y && same before o p) e in
      begun_same (symbol_same a b l) (same_equal z y (and_left (same before z y) (same before o p) r)) (same_equal o p (and_right (same before z y) (same before o p) r))

  pub same_self : (t : Codes S) → same before t t ≡ true
  same_self none = refl
  same_self blank = refl
  same_self (begun a z o) = rw (symbol_self a, same_self z, same_self o)

  -- codes that begin with a symbol
  Starts : Codes S → S → Type 0
  Starts none s = ⊥
  Starts blank s = ⊥
  Starts (begun a z o) s = UpTo before order a s

  comes_starts : (a s : S) (z : Codes S) → Comes before a z → Starts z s → before a s ≡ true
  unfolding Starts
  comes_starts a s none h k = absurd k
  comes_starts a s blank h k = absurd k
  comes_starts a s (begun b y p) h k = upto_after before order a b s h k

  starts : (t : Codes S) → Proper before t → (c : List S) (s : S) (rest : List S) → c ≡ s ∷ rest → Member t c → Starts t s
  unfolding Starts
  starts none h c s rest e m = m
  starts blank h c s rest e m = absurd (nil_cons m e)
  starts (begun a z o) h c s rest e (inl m) = inr (comes_starts a s z h.0 (starts z h.2 c s rest e m))
  starts (begun a z o) h c s rest e (inr m) = inl (head_same m.1 e)

  pub outer_comes : (a : S) (z : Codes S) → Comes before a z → Proper before z → (s : S) (rest : List S) → Member z (s ∷ rest) → before a s ≡ true
  outer_comes a z h k s rest m = comes_starts a s z h (starts z k (s ∷ rest) s rest refl m)

  pub outer_never : (a : S) (z : Codes S) → Comes before a z → Proper before z → (rest : List S) → Member z (a ∷ rest) → ⊥
  outer_never a z h k rest m = true_false (outer_comes a z h k a rest m) (order.irreflexive a)

  pub some_member : (t : Codes S) → SomeCode t → Proper before t → (c : List S) × Member t c
  some_member none k h = absurd k
  some_member blank k h = ([], refl)
  some_member (begun a z o) k h = let r = some_member o h.1 h.3 in (a ∷ r.0, inr (r.0, refl, r.1))

  pub begun_member : (a : S) (z o : Codes S) → Proper before (begun a z o) → (rest : List S) × Member (begun a z o) (a ∷ rest)
  begun_member a z o h = let r = some_member o h.1 h.3 in (r.0, inr (r.0, refl, r.1))

  module _ (a b : S) (z o y p : Codes S) (pt : Proper before (begun a z o)) (pu : Proper before (begun b y p)) (alike : SameMembers (begun a z o) (begun b y p)) where
    heads_agree : a ≡ b
    unfolding Starts
    heads_agree =
        let r = begun_member a z o pt in
        let q = begun_member b y p pu in
        upto_both before order a b
        (starts (begun a z o) pt (b ∷ q.0) b q.0 refl ((alike (b ∷ q.0)).1 q.1))
        (starts (begun b y p) pu (a ∷ r.0) a r.0 refl ((alike (a ∷ r.0)).0 r.1))

    inner_member : (c : List S) → Member o c → Member p c
    inner_member c m = by ((alike (a ∷ c)).0 (inr (c, refl, m)))
      where
        by : Member (begun b y p) (a ∷ c) → Member p c
        by (inl k) = absurd (outer_never b y pu.0 pu.2 c (subst (λ x. Member y (x ∷ c)) heads_agree k))
        by (inr k) = subst (Member p) (sym (tail_same refl k.1)) k.2

    outer_member : (c : List S) → Member z c → Member y c
    outer_member c m = by ((alike c).0 (inl m))
      where
        by : Member (begun b y p) c → Member y c
        by (inl k) = k
        by (inr k) = absurd (outer_never a z pt.0 pt.2 k.0 (subst (Member z) (k.1 ∙ ap (λ x. x ∷ k.0) (sym heads_agree)) m))

  flip : (t u : Codes S) → SameMembers t u → SameMembers u t
  flip t u alike c = ((alike c).1, (alike c).0)

  pub proper_same : (t u : Codes S) → Proper before t → Proper before u → SameMembers t u → t ≡ u
  unfolding flip
  proper_same none none pt pu alike = refl
  proper_same none blank pt pu alike = absurd ((alike []).1 refl)
  proper_same none (begun b y p) pt pu alike = let r = begun_member b y p pu in absurd ((alike (b ∷ r.0)).1 r.1)
  proper_same blank none pt pu alike = absurd ((alike []).0 refl)
  proper_same blank blank pt pu alike = refl
  proper_same blank (begun b y p) pt pu alike = let r = begun_member b y p pu in absurd (nil_cons ((alike (b ∷ r.0)).1 r.1) refl)
  proper_same (begun a z o) none pt pu alike = let r = begun_member a z o pt in absurd ((alike (a ∷ r.0)).0 r.1)
  proper_same (begun a z o) blank pt pu alike = let r = begun_member a z o pt in absurd (nil_cons ((alike (a ∷ r.0)).0 r.1) refl)
  proper_same (begun a z o) (begun b y p) pt pu alike =
      let back = flip (begun a z o) (begun b y p) alike in
      begun_same (heads_agree a b z o y p pt pu alike)
      (proper_same z y pt.2 pu.2 (λ c. (outer_member a b z o y p pt pu alike c, outer_member b a y p z o pu pt back c)))
      (proper_same o p pt.3 pu.3 (λ c. (inner_member a b z o y p pt pu alike c, inner_member b a y p z o pu pt back c)))
