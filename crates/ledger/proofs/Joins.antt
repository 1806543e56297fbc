-- What is in a join.
use Rattle.std.proofs.Common.{◌≡◌, Bool, true, false, cond, ◌⊎◌, List, [], ◌∷◌, sym, refl, ◌∙◌, subst, inl, inr}
use Rattle.symbols.specs.Order.{Order, same_symbol}
use Rattle.ledger.specs.Lists.{Codes, none, blank, begun, Comes, Proper}
use Rattle.ledger.specs.Operations.{has, make, join_blank, join_over, join}
use Rattle.ledger.proofs.Rows.{both_ways}
use Rattle.ledger.proofs.Sets.{symbol_same}

module _ {S : Type 0} (before : S → S → Bool) (order : Order before) where
  comes_earlier : (a b : S) (t : Codes S) → before a b ≡ true → Comes before b t → Comes before a t
  comes_earlier a b none h k = tt
  comes_earlier a b blank h k = tt
  comes_earlier a b (begun c y p) h k = order.transitive a b c h k

  -- of two symbols one comes first, or they are one
  differ : (a b : S) → before a b ≡ true → same_symbol before a b ≡ false
  differ a b h = rw h

  differ_back : (a b : S) → before b a ≡ true → same_symbol before a b ≡ false
  differ_back a b h = by (both_ways (before a b))
    where
      by : (before a b ≡ true) ⊎ (before a b ≡ false) → same_symbol before a b ≡ false
      by (inl e) = rw e
      by (inr e) = rw (e, h)

  -- no code begins with what comes before the head
  has_early : (t : Codes S) (s : S) (c : List S) → Proper before t → Comes before s t → has before t (s ∷ c) ≡ false
  has_early none s c p k = refl
  has_early blank s c p k = refl
  has_early (begun b y q) s c p k = rw (differ_back b s k) (has_early y s c p.2 (comes_earlier s b y k p.0))

  -- making
  make_proper : (a : S) (z o : Codes S) → Comes before a z → Proper before z → Proper before o → Proper before (make a z o)
  make_proper a z none k pz po = pz
  make_proper a z blank k pz po = (k, tt, pz, tt)
  make_proper a z (begun b y p) k pz po = (k, tt, pz, po)

  make_comes : (x a : S) (z o : Codes S) → before x a ≡ true → Comes before a z → Comes before x (make a z o)
  make_comes x a z none h k = comes_earlier x a z h k
  make_comes x a z blank h k = h
  make_comes x a z (begun b y p) h k = h

  make_has_empty : (a : S) (z o : Codes S) → has before (make a z o) [] ≡ has before z []
  make_has_empty a z none = refl
  make_has_empty a z blank = refl
  make_has_empty a z (begun b y p) = refl

  make_has : (a : S) (z o : Codes S) (s : S) (c : List S) → Comes before a z → Proper before z → has before (make a z o) (s ∷ c) ≡ cond (same_symbol before a s) (has before o c) (has before z (s ∷ c))
  make_has a z none s c k p = by (both_ways (same_symbol before a s))
    where
      by : (same_symbol before a s ≡ true) ⊎ (same_symbol before a s ≡ false) → has before z (s ∷ c) ≡ cond (same_symbol before a s) false (has before z (s ∷ c))
      by (inl e) = rw e (has_early z s c p (subst (λ x. Comes before x z) (symbol_same before order a s e) k))
      by (inr e) = rw e
  make_has a z blank s c k p = refl
  make_has a z (begun b y q) s c k p = refl

  module _ (f : Bool → Bool → Bool) (neither : f false false ≡ false) where
    kept : Codes S → Codes S
    kept t = cond (f true false) t none

    first_proper : (t : Codes S) → Proper before t → Proper before (cond (f true false) t none)
    first_proper t p = elim (f true false) as (λ b. Proper before (cond b t none)) [ true ↦ p | false ↦ tt ]

    second_proper : (t : Codes S) → Proper before t → Proper before (cond (f false true) t none)
    second_proper t p = elim (f false true) as (λ b. Proper before (cond b t none)) [ true ↦ p | false ↦ tt ]

    first_comes : (x : S) (t : Codes S) → Comes before x t → Comes before x (cond (f true false) t none)
    first_comes x t p = elim (f true false) as (λ b. Comes before x (cond b t none)) [ true ↦ p | false ↦ tt ]

    second_comes : (x : S) (t : Codes S) → Comes before x t → Comes before x (cond (f false true) t none)
    second_comes x t p = elim (f false true) as (λ b. Comes before x (cond b t none)) [ true ↦ p | false ↦ tt ]

    first_has : (t : Codes S) (c : List S) → has before (cond (f true false) t none) c ≡ f (has before t c) false
    first_has t c = by (both_ways (f true false)) (both_ways (has before t c))
      where
        by : (f true false ≡ true) ⊎ (f true false ≡ false) → (has before t c ≡ true) ⊎ (has before t c ≡ false) → has before (cond (f true false) t none) c ≡ f (has before t c) false
        by (inl e) (inl h) = rw (e, h) (sym e)
        by (inl e) (inr h) = rw (e, h) (sym neither)
        by (inr e) (inl h) = rw (e, h) (sym e)
        by (inr e) (inr h) = rw (e, h) (sym neither)

    second_has : (t : Codes S) (c : List S) → has before (cond (f false true) t none) c ≡ f false (has before t c)
    second_has t c = by (both_ways (f false true)) (both_ways (has before t c))
      where
        by : (f false true ≡ true) ⊎ (f false true ≡ false) → (has before t c ≡ true) ⊎ (has before t c ≡ false) → has before (cond (f false true) t none) c ≡ f false (has before t c)
        by (inl e) (inl h) = rw (e, h) (sym e)
        by (inl e) (inr h) = rw (e, h) (sym neither)
        by (inr e) (inl h) = rw (e, h) (sym e)
        by (inr e) (inr h) = rw (e, h) (sym neither)

    -- what is shown of a join of t and u: proper, after every symbol that both come after, and with the right codes
    pub record Right (t u r : Codes S) : Type 0 where
      pub proper : Proper before r
      pub comes : (x : S) → Comes before x t → Comes before x u → Comes before x r
      pub right : (c : List S) → has before r c ≡ f (has before t c) (has before u c)

    -- the four ways that a join is made
    right_first : (a : S) (z o : Codes S) (u r : Codes S) → Proper before (begun a z o) → Proper before u → Comes before a u → Right z u r → Right (begun a z o) u (make a r (cond (f true false) o none))
    right_first a z o u r pt pu k R =
        record {
          proper = make_proper a r _ after R.proper (first_proper o pt.3);
          comes = λ x ht hu. make_comes x a r (cond (f true false) o none) ht after;
          right = by;
        }
      where
        after : Comes before a r
        after = R.comes a pt.0 k

        by : (c : List S) → has before (make a r (cond (f true false) o none)) c ≡ f (has before (begun a z o) c) (has before u c)
        by [] = make_has_empty a r (cond (f true false) o none) ∙ R.right []
        by (s ∷ c) = make_has a r (cond (f true false) o none) s c after R.proper ∙ split (both_ways (same_symbol before a s))
          where
            split : (same_symbol before a s ≡ true) ⊎ (same_symbol before a s ≡ false) →
                cond (same_symbol before a s) (has before (cond (f true false) o none) c) (has before r (s ∷ c)) ≡ f (has before (begun a z o) (s ∷ c)) (has before u (s ∷ c))
            split (inl e) = rw (e, has_early u s c pu (subst (λ x. Comes before x u) (symbol_same before order a s e) k)) (first_has o c)
            split (inr e) = rw e (R.right (s ∷ c))

    right_second : (b : S) (y p : Codes S) (t r : Codes S) → Proper before (begun b y p) → Proper before t → Comes before b t → Right t y r → Right t (begun b y p) (make b r (cond (f false true) p none))
    right_second b y p t r pu pt k R =
        record {
          proper = make_proper b r _ after R.proper (second_proper p pu.3);
          comes = λ x ht hu. make_comes x b r (cond (f false true) p none) hu after;
          right = by;
        }
      where
        after : Comes before b r
        after = R.comes b k pu.0

        by : (c : List S) → has before (make b r (cond (f false true) p none)) c ≡ f (has before t c) (has before (begun b y p) c)
        by [] = make_has_empty b r (cond (f false true) p none) ∙ R.right []
        by (s ∷ c) = make_has b r (cond (f false true) p none) s c after R.proper ∙ split (both_ways (same_symbol before b s))
          where
            split : (same_symbol before b s ≡ true) ⊎ (same_symbol before b s ≡ false) →
                cond (same_symbol before b s) (has before (cond (f false true) p none) c) (has before r (s ∷ c)) ≡ f (has before t (s ∷ c)) (has before (begun b y p) (s ∷ c))
            split (inl e) = rw (e, has_early t s c pt (subst (λ x. Comes before x t) (symbol_same before order b s e) k)) (second_has p c)
            split (inr e) = rw e (R.right (s ∷ c))

    right_both : (a b : S) (z o y p r q : Codes S) → a ≡ b → Proper before (begun a z o) → Proper before (begun b y p) → Right z y r → Right o p q → Right (begun a z o) (begun b y p) (make a r q)
    right_both a b z o y p r q a_b pt pu R Q =
        record {
          proper = make_proper a r q after R.proper Q.proper;
          comes = λ x ht hu. make_comes x a r q ht after;
          right = by;
        }
      where
        after : Comes before a r
        after = R.comes a pt.0 (subst (λ x. Comes before x y) (sym a_b) pu.0)

        by : (c : List S) → has before (make a r q) c ≡ f (has before (begun a z o) c) (has before (begun b y p) c)
        by [] = make_has_empty a r q ∙ R.right []
        by (s ∷ c) = make_has a r q s c after R.proper ∙ rw (← a_b) (split (both_ways (same_symbol before a s)))
          where
            split : (same_symbol before a s ≡ true) ⊎ (same_symbol before a s ≡ false) →
                cond (same_symbol before a s) (has before q c) (has before r (s ∷ c)) ≡ f (has before (begun a z o) (s ∷ c)) (has before (begun a y p) (s ∷ c))
            split (inl e) = rw e (Q.right c)
            split (inr e) = rw e (R.right (s ∷ c))

    right_none_first : (u : Codes S) → Proper before u → Right none u (cond (f false true) u none)
    right_none_first u p = record { proper = second_proper u p; comes = λ x ht hu. second_comes x u hu; right = second_has u }

    right_none_second : (t : Codes S) → Proper before t → Right t none (cond (f true false) t none)
    right_none_second t p = record { proper = first_proper t p; comes = λ x ht hu. first_comes x t ht; right = first_has t }

    right_blank : Right blank blank (cond (f true true) blank none)
    right_blank =
        record {
          proper = elim (f true true) as (λ b. Proper before (cond b blank none)) [ true ↦ tt | false ↦ tt ];
          comes = λ x ht hu. elim (f true true) as (λ b. Comes before x (cond b blank none)) [ true ↦ tt | false ↦ tt ];
          right = by;
        }
      where
        by : (c : List S) → has before (cond (f true true) blank none) c ≡ f (has before blank c) (has before blank c)
        by [] = elim (f true true) as (λ b. has before (cond b blank none) [] ≡ b) [ true ↦ refl | false ↦ refl ]
        by (s ∷ c) = rw neither (elim (f true true) as (λ b. has before (cond b blank none) (s ∷ c) ≡ false) [ true ↦ refl | false ↦ refl ])

    join_blank_right : (u : Codes S) → Proper before u → Right blank u (join_blank f u)
    join_blank_right none p = right_none_second blank tt
    join_blank_right blank p = right_blank
    join_blank_right (begun b y q) p = right_second b y q blank (join_blank f y) p tt tt (join_blank_right y p.2)

    join_over_right : (a : S) (z o : Codes S) (jz jo : Codes S → Codes S) → Proper before (begun a z o) →
        ((u : Codes S) → Proper before u → Right z u (jz u)) → ((u : Codes S) → Proper before u → Right o u (jo u)) →
        (u : Codes S) → Proper before u → Right (begun a z o) u (join_over before f a z o jz jo u)
    join_over_right a z o jz jo pt rz ro none pu = right_none_second (begun a z o) pt
    join_over_right a z o jz jo pt rz ro blank pu = right_first a z o blank (jz blank) pt tt tt (rz blank tt)
    join_over_right a z o jz jo pt rz ro (begun b y p) pu = by (both_ways (before a b)) (both_ways (before b a)) (join_over_right a z o jz jo pt rz ro y pu.2)
      where
        by : (before a b ≡ true) ⊎ (before a b ≡ false) → (before b a ≡ true) ⊎ (before b a ≡ false) → Right (begun a z o) y (join_over before f a z o jz jo y) →
            Right (begun a z o) (begun b y p) (join_over before f a z o jz jo (begun b y p))
        by (inl h) k below = rw h (right_first a z o (begun b y p) (jz (begun b y p)) pt pu h (rz (begun b y p) pu))
        by (inr h) (inl k) below = rw (h, k) (right_second b y p (begun a z o) (join_over before f a z o jz jo y) pu pt k below)
        by (inr h) (inr k) below = rw (h, k) (right_both a b z o y p (jz y) (jo p) (order.connected a b h k) pt pu (rz y pu.2) (ro p pu.3))

    pub join_right : (t u : Codes S) → Proper before t → Proper before u → Right t u (join before f t u)
    join_right none u pt pu = right_none_first u pu
    join_right blank u pt pu = join_blank_right u pu
    join_right (begun a z o) u pt pu =
        join_over_right a z o (λ x. join before f z x) (λ x. join before f o x) pt (λ x px. join_right z x pt.2 px) (λ x px. join_right o x pt.3 px) u pu
