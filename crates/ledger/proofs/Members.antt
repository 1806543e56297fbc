-- Lists are plain sets: what falls apart, what a join takes, and what a code changes, said of members.
use Rattle.std.proofs.Common.{◌≡◌, ℕ, ◌/◌, ◌%◌, Bool, true, false, eqb, ◌⊎◌, ◌↔◌, List, ◌∷◌, ◌++◌, sym, refl, ap, ◌∙◌, subst, inl, inr, eq-eqb, eqb-true}
use mathlib.Core.Path.{subst⁻¹}
use mathlib.Core.Logic.Iff
use Rattle.symbols.specs.Order.{Order}
use Rattle.symbols.proofs.Orders.{not_both}
use Rattle.ledger.specs.Lists.{Codes, begun, Member, Proper}
use Rattle.ledger.specs.Operations.{has, takes, join, single, under}
use Rattle.ledger.specs.PlainSets.{AreSets, FallsApart, Taken, Joins, ByCode}
use Rattle.ledger.proofs.Reading.{head_same, tail_same, true_false}
use Rattle.ledger.proofs.Sets.{proper_same, outer_comes, outer_never, begun_member}
use Rattle.ledger.proofs.Rows.{both_ways}
use Rattle.ledger.proofs.Joins.{join_right}
use Rattle.ledger.proofs.Orders.{has_in, in_has}
use Rattle.ledger.proofs.Under.{under_has, under_proper}
use Rattle.ledger.proofs.Finite.{single_proper, single_in, in_single, from_codes}

-- a rule, for any two tests and what they test
pub taken : (rule : ℕ) (P Q : Type 0) (x y : Bool) → (x ≡ true) ↔ P → (y ≡ true) ↔ Q → (takes rule x y ≡ true) ↔ Taken rule P Q
taken rule P Q true true p q = (λ e. inr (inr (eqb-true (rule / 4 % 2) 1 e, p.0 refl, q.0 refl)), back)
  where
    back : Taken rule P Q → eqb (rule / 4 % 2) 1 ≡ true
    back (inl h) = absurd (h.2 (q.0 refl))
    back (inr (inl h)) = absurd (h.1 (p.0 refl))
    back (inr (inr h)) = eq-eqb (rule / 4 % 2) 1 h.0
taken rule P Q true false p q = (λ e. inl (eqb-true (rule % 2) 1 e, p.0 refl, λ k. true_false (q.1 k) refl), back)
  where
    back : Taken rule P Q → eqb (rule % 2) 1 ≡ true
    back (inl h) = eq-eqb (rule % 2) 1 h.0
    back (inr (inl h)) = absurd (h.1 (p.0 refl))
    back (inr (inr h)) = absurd (true_false (q.1 h.2) refl)
taken rule P Q false true p q = (λ e. inr (inl (eqb-true (rule / 2 % 2) 1 e, λ k. true_false (p.1 k) refl, q.0 refl)), back)
  where
    back : Taken rule P Q → eqb (rule / 2 % 2) 1 ≡ true
    back (inl h) = absurd (h.2 (q.0 refl))
    back (inr (inl h)) = eq-eqb (rule / 2 % 2) 1 h.0
    back (inr (inr h)) = absurd (true_false (p.1 h.1) refl)
taken rule P Q false false p q = (λ e. absurd (true_false e refl), back)
  where
    back : Taken rule P Q → false ≡ true
    back (inl h) = p.1 h.1
    back (inr (inl h)) = q.1 h.2
    back (inr (inr h)) = p.1 h.1

-- rule 7 takes what is in either, and rule 1 what is in the first alone
taken_7 : (P Q : Type 0) (x y : Bool) → (x ≡ true) ↔ P → (y ≡ true) ↔ Q → (takes 7 x y ≡ true) ↔ (P ⊎ Q)
taken_7 P Q true true p q = (λ e. inl (p.0 refl), λ h. refl)
taken_7 P Q true false p q = (λ e. inl (p.0 refl), λ h. refl)
taken_7 P Q false true p q = (λ e. inr (q.0 refl), λ h. refl)
taken_7 P Q false false p q = (λ e. absurd (true_false e refl), λ h. elim h [ inl k ↦ p.1 k | inr k ↦ q.1 k ])

taken_1 : (P Q : Type 0) (x y : Bool) → (x ≡ true) ↔ P → (y ≡ true) ↔ Q → (takes 1 x y ≡ true) ↔ (P × (Q → ⊥))
taken_1 P Q true true p q = (λ e. absurd (true_false e refl), λ h. absurd (h.1 (q.0 refl)))
taken_1 P Q true false p q = (λ e. (p.0 refl, λ k. true_false (q.1 k) refl), λ h. refl)
taken_1 P Q false true p q = (λ e. absurd (true_false e refl), λ h. p.1 h.0)
taken_1 P Q false false p q = (λ e. absurd (true_false e refl), λ h. p.1 h.0)

module _ {S : Type 0} (before : S → S → Bool) (order : Order before) where
  pub are_sets : AreSets before
  are_sets =
      record {
        same = proper_same before order;
        every = from_codes before order;
        list_0 = λ c m. m;
        list_1 = λ c. (λ e. e, λ e. e);
      }

  pub falls_apart : (a : S) (z o : Codes S) → Proper before (begun a z o) → FallsApart before a z o
  falls_apart a z o p =
      record {
        head = begun_member before order a z o p;
        earliest = earliest;
        inside = λ rest. (λ m. inr (rest, refl, m), inner rest);
        outside = λ c. (λ m. (inl m, λ rest e. outer_never before order a z p.0 p.2 rest (subst (Member z) e m)), λ h. outer c h.1 h.0);
        outer_proper = p.2;
        inner_proper = p.3;
      }
    where
      earliest : (s : S) (rest : List S) → Member (begun a z o) (s ∷ rest) → before s a ≡ false
      earliest s rest (inl m) = by (both_ways (before s a))
        where
          by : (before s a ≡ true) ⊎ (before s a ≡ false) → before s a ≡ false
          by (inl e) = absurd (not_both before order s a e (outer_comes before order a z p.0 p.2 s rest m))
          by (inr e) = e
      earliest s rest (inr m) = ap (λ x. before x a) (head_same refl m.1) ∙ order.irreflexive a

      inner : (rest : List S) → Member (begun a z o) (a ∷ rest) → Member o rest
      inner rest (inl m) = absurd (outer_never before order a z p.0 p.2 rest m)
      inner rest (inr m) = subst (Member o) (sym (tail_same refl m.1)) m.2

      outer : (c : List S) → ((rest : List S) → c ≡ a ∷ rest → ⊥) → Member (begun a z o) c → Member z c
      outer c other (inl m) = m
      outer c other (inr m) = absurd (other m.0 m.1)

  pub tested : (t : Codes S) → Proper before t → (c : List S) → (has before t c ≡ true) ↔ Member t c
  tested t p c = (has_in before order t c, in_has before order t p c)

  pub joined : (f : Bool → Bool → Bool) → f false false ≡ false → (t u : Codes S) → Proper before t → Proper before u →
      Proper before (join before f t u) × ((c : List S) → Member (join before f t u) c ↔ (f (has before t c) (has before u c) ≡ true))
  joined f neither t u pt pu =
      let r = join_right before order f neither t u pt pu in (
        r.proper,
        λ c. (λ m. sym (r.right c) ∙ in_has before order (join before f t u) r.proper c m, λ e. has_in before order (join before f t u) c (r.right c ∙ e)),
      )

  pub joins : (t u : Codes S) → Proper before t → Proper before u → Joins before t u
  joins t u pt pu =
      record {
        test = tested t pt;
        by_test = λ f neither. joined f neither t u pt pu;
        by_rule = λ rule.
            let r = joined (takes rule) refl t u pt pu in
            (r.0, λ c. Iff.trans (r.1 c) (taken rule (Member t c) (Member u c) (has before t c) (has before u c) (tested t pt c) (tested u pu c)));
      }

  -- the list of one code has just that code
  is_code : (c d : List S) → (has before (single c) d ≡ true) ↔ (d ≡ c)
  is_code c d = Iff.trans (tested (single c) (single_proper before c) d) (single_in c d, λ e. subst⁻¹ (Member (single c)) e (in_single c))

  pub by_code : (t : Codes S) → Proper before t → (c : List S) → ByCode before t c
  by_code t p c =
      record {
        with =
            let r = joined (takes 7) refl t (single c) p (single_proper before c) in
            (r.0, λ d. Iff.trans (r.1 d) (taken_7 (Member t d) (d ≡ c) (has before t d) (has before (single c) d) (tested t p d) (is_code c d)));
        without =
            let r = joined (takes 1) refl t (single c) p (single_proper before c) in
            (r.0, λ d. Iff.trans (r.1 d) (taken_1 (Member t d) (d ≡ c) (has before t d) (has before (single c) d) (tested t p d) (is_code c d)));
        remaining = (
          under_proper before order t p c,
          λ d. (
            λ m. has_in before order t (c ++ d) (sym (under_has before order t c d) ∙ in_has before order (under before t c) (under_proper before order t p c) d m),
            λ m. has_in before order (under before t c) d (under_has before order t c d ∙ in_has before order t p (c ++ d) m),
          ),
        );
      }
