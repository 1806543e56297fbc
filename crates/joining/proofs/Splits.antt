-- A pair taken apart: its list is made of the lists of its two parts.
use Rattle.std.proofs.Common.{◌≡◌, ℕ, ◌<◌, Bool, true, false, cond, ◌≢◌, List, Some, None, Option, sym, refl, ap, ◌∙◌, subst, ap₂, inl, inr, arith}
use Rattle.std.specs.Option.{option_map}
use Rattle.symbols.specs.Order.{Order}
use Rattle.ledger.specs.declared.Vertex.{Vertex}
use Rattle.ledger.specs.Lists.{Codes, none, blank, begun}
use Rattle.ledger.specs.Diagrams.{look, parts, Good, Sound}
use Rattle.ledger.specs.Ledger.{codes}
use Rattle.ledger.specs.Operations.{make, join}
use Rattle.ledger.proofs.Draws.{terminal, codes_formed}
use Rattle.ledger.proofs.Reading.{none_some, some_same}
use Rattle.memory.specs.Shelves.{LinksBelow}
use Rattle.joining.specs.Pairs.{first_alone, second_alone, both_heads, by_heads, parted, apart, Falls}
use Rattle.joining.specs.declared.pairs.Pair.{Pair}
use Rattle.joining.specs.declared.pairs.Split.{Split}

-- the sums fall
pub part_falls : {S : Type 0} (before : S → S → Bool) (pair : Pair) (a b : Option (S × ℕ × ℕ)) → LinksBelow pair.first a → LinksBelow pair.second b → Falls pair (parted before pair a b)
part_falls before pair None None h k = tt
part_falls before pair None (Some w) h k = (omega arith, omega arith)
part_falls before pair (Some v) None h k = (omega arith, omega arith)
part_falls {S} before pair (Some v) (Some w) h k = by (before v.0 w.0) (before w.0 v.0)
  where
    by : (a b : Bool) → Falls pair (Some (cond a (first_alone pair v) (cond b (second_alone pair w) (both_heads v w))))
    by true b = (omega arith, omega arith)
    by false true = (omega arith, omega arith)
    by false false = (omega arith, omega arith)

module _ {S : Type 0} (before : S → S → Bool) (f : Bool → Bool → Bool) where
  -- list 0 on the right
  pub join_none : (t : Codes S) → join before f t none ≡ cond (f true false) t none
  join_none none = by (f false true) (f true false)
    where
      by : (a b : Bool) → ◌≡◌ {A = Codes S} (cond a none none) (cond b none none)
      by true true = refl
      by true false = refl
      by false true = refl
      by false false = refl
  join_none blank = refl
  join_none (begun a z o) = refl

  -- which head comes first
  join_first : (a : S) (z o : Codes S) (b : S) (y p : Codes S) → before a b ≡ true →
      join before f (begun a z o) (begun b y p) ≡ make a (join before f z (begun b y p)) (join before f o none)
  join_first a z o b y p e = rw e (ap (make a (join before f z (begun b y p))) (sym (join_none o)))

  join_second : (a : S) (z o : Codes S) (b : S) (y p : Codes S) → before a b ≡ false → before b a ≡ true →
      join before f (begun a z o) (begun b y p) ≡ make b (join before f (begun a z o) y) (join before f none p)
  join_second a z o b y p e d = rw (e, d)

  join_both : (a : S) (z o : Codes S) (b : S) (y p : Codes S) → before a b ≡ false → before b a ≡ false →
      join before f (begun a z o) (begun b y p) ≡ make a (join before f z y) (join before f o p)
  join_both a z o b y p e d = rw (e, d)

  join_first_blank : (a : S) (z o : Codes S) → join before f (begun a z o) blank ≡ make a (join before f z blank) (join before f o none)
  join_first_blank a z o = ap (make a (join before f z blank)) (sym (join_none o))

module _ {S : Type 0} (before : S → S → Bool) (order : Order before) (vs : List (Vertex S)) (sound : Sound before vs) (f : Bool → Bool → Bool) where
  pub record Parted (pair : Pair) (s : Split S) : Type 0 where
    pub outer_first : Good vs s.outer.first
    pub outer_second : Good vs s.outer.second
    pub inner_first : Good vs s.inner.first
    pub inner_second : Good vs s.inner.second
    pub is : join before f (codes vs pair.first) (codes vs pair.second) ≡
        make s.label (join before f (codes vs s.outer.first) (codes vs s.outer.second)) (join before f (codes vs s.inner.first) (codes vs s.inner.second))

  here : (n : ℕ) (v : Vertex S) → look vs n ≡ Some v → codes vs n ≡ begun v.label (codes vs v.zero) (codes vs v.one)
  here = codes_formed before order vs sound.formed

  module _ (pair : Pair) (first : Good vs pair.first) (second : Good vs pair.second) (first_some : 0 < pair.first) (second_some : 0 < pair.second) where
    at_first : (v : Vertex S) → look vs pair.first ≡ Some v → codes vs pair.second ≡ blank → Parted pair (first_alone pair (parts v))
    at_first v e b =
        let z = sound.formed.zero_below pair.first v e in
        let o = sound.formed.one_below pair.first v e in
        record {
          outer_first = omega arith;
          outer_second = second;
          inner_first = omega arith;
          inner_second = omega arith;
          is = ap₂ (join before f) (here pair.first v e) b ∙ join_first_blank before f v.label (codes vs v.zero) (codes vs v.one) ∙
              ap (λ (t : Codes S). make v.label (join before f (codes vs v.zero) t) (join before f (codes vs v.one) none)) (sym b);
        }

    at_second : (w : Vertex S) → look vs pair.second ≡ Some w → codes vs pair.first ≡ blank → Parted pair (second_alone pair (parts w))
    at_second w e b =
        let z = sound.formed.zero_below pair.second w e in
        let o = sound.formed.one_below pair.second w e in
        record {
          outer_first = first;
          outer_second = omega arith;
          inner_first = omega arith;
          inner_second = omega arith;
          is = ap₂ (join before f) b (here pair.second w e) ∙
              ap (λ (t : Codes S). make w.label (join before f t (codes vs w.zero)) (join before f none (codes vs w.one))) (sym b);
        }

    at_both : (v w : Vertex S) → look vs pair.first ≡ Some v → look vs pair.second ≡ Some w → (s : Split S) →
        by_heads before pair (parts v) (parts w) ≡ s → Parted pair s
    at_both v w e d s h = by (before v.label w.label) (before w.label v.label) refl refl h
      where
        begins : join before f (codes vs pair.first) (codes vs pair.second) ≡
            join before f (begun v.label (codes vs v.zero) (codes vs v.one)) (begun w.label (codes vs w.zero) (codes vs w.one))
        begins = ap₂ (join before f) (here pair.first v e) (here pair.second w d)

        vz : v.zero < pair.first
        vz = sound.formed.zero_below pair.first v e

        vo : v.one < pair.first
        vo = sound.formed.one_below pair.first v e

        wz : w.zero < pair.second
        wz = sound.formed.zero_below pair.second w d

        wo : w.one < pair.second
        wo = sound.formed.one_below pair.second w d

        by : (a b : Bool) → before v.label w.label ≡ a → before w.label v.label ≡ b →
            cond a (first_alone pair (parts v)) (cond b (second_alone pair (parts w)) (both_heads (parts v) (parts w))) ≡ s → Parted pair s
        by true b p q r =
            let z = vz in
            let o = vo in
            subst (Parted pair) r
            (record {
              outer_first = omega arith;
              outer_second = second;
              inner_first = omega arith;
              inner_second = omega arith;
              is = begins ∙ join_first before f v.label (codes vs v.zero) (codes vs v.one) w.label (codes vs w.zero) (codes vs w.one) p ∙
                  ap (λ (t : Codes S). make v.label (join before f (codes vs v.zero) t) (join before f (codes vs v.one) none)) (sym (here pair.second w d));
            })
        by false true p q r =
            let z = wz in
            let o = wo in
            subst (Parted pair) r
            (record {
              outer_first = first;
              outer_second = omega arith;
              inner_first = omega arith;
              inner_second = omega arith;
              is = begins ∙ join_second before f v.label (codes vs v.zero) (codes vs v.one) w.label (codes vs w.zero) (codes vs w.one) p q ∙
                  ap (λ (t : Codes S). make w.label (join before f t (codes vs w.zero)) (join before f none (codes vs w.one))) (sym (here pair.first v e));
            })
        by false false p q r =
            let z = vz in
            let o = vo in
            let y = wz in
            let x = wo in
            subst (Parted pair) r
            (record {
              outer_first = omega arith;
              outer_second = omega arith;
              inner_first = omega arith;
              inner_second = omega arith;
              is = begins ∙ join_both before f v.label (codes vs v.zero) (codes vs v.one) w.label (codes vs w.zero) (codes vs w.one) p q;
            })

    -- a number that is not 0 and shows no vertex is 1
    one_only : (n : ℕ) → Good vs n → 0 < n → look vs n ≡ None → n ≡ 1
    one_only n good some e = elim (terminal vs n good e) [ inl p ↦ absurd (omega arith) | inr p ↦ p ]

    pub parted_is : (s : Split S) → apart before vs pair ≡ Some s → Parted pair s
    parted_is s h = by (look vs pair.first) (look vs pair.second) refl refl h
      where
        by : (a b : Option (Vertex S)) → look vs pair.first ≡ a → look vs pair.second ≡ b → parted before pair (option_map parts a) (option_map parts b) ≡ Some s → Parted pair s
        by None None e d r = absurd (none_some refl r)
        by None (Some w) e d r =
            let is : second_alone pair (parts w) ≡ s = cc in
            subst (Parted pair) is (at_second w d (ap (codes vs) (one_only pair.first first first_some e)))
        by (Some v) None e d r =
            let is : first_alone pair (parts v) ≡ s = cc in
            subst (Parted pair) is (at_first v e (ap (codes vs) (one_only pair.second second second_some d)))
        by (Some v) (Some w) e d r = at_both v w e d s (some_same refl r)

    -- two numbers, none of them 0, can be taken apart
    pub parted_some : pair.first ≢ pair.second → apart before vs pair ≡ None → ⊥
    parted_some ne h = by (look vs pair.first) (look vs pair.second) refl refl h
      where
        by : (a b : Option (Vertex S)) → look vs pair.first ≡ a → look vs pair.second ≡ b → parted before pair (option_map parts a) (option_map parts b) ≡ None → ⊥
        by None None e d r = ne (one_only pair.first first first_some e ∙ sym (one_only pair.second second second_some d))
        by None (Some w) e d r = none_some r refl
        by (Some v) None e d r = none_some r refl
        by (Some v) (Some w) e d r = none_some r refl
