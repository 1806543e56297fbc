-- The order of codes is an order, and in the codes of a list as they follow one another the k-th has k before it.
use Rattle.std.proofs.Common.{◌≡◌, ℕ, zero, suc, Bool, true, false, ◌⊎◌, ◌↔◌, List, [], ◌∷◌, Some, sym, refl, ap, ◌∙◌, subst, ap₂, inl, inr}
use mathlib.Core.List.{Memᴰ}
use Rattle.std.specs.List.{slice_get}
use Rattle.symbols.specs.Order.{Order}
use Rattle.symbols.proofs.Orders.{not_both}
use Rattle.ledger.specs.Lists.{Codes, Member, Proper}
use Rattle.ledger.specs.Diagrams.{Apart, Counts}
use Rattle.ledger.specs.Ordered.{code_before, ordered, Ascending}
use Rattle.ledger.specs.PlainSets.{InOrder, Ordering}
use Rattle.ledger.proofs.Reading.{none_some, some_same, true_false}
use Rattle.ledger.proofs.Rows.{both_ways}
use Rattle.ledger.proofs.Pigeons.{counts_once}
use Rattle.ledger.proofs.Orders.{ordered_ascending, ordered_member, member_ordered}

-- where a member stands
place : {A : Type 0} (x : A) (xs : List A) → Memᴰ x xs → (k : ℕ) × (slice_get xs k ≡ Some x)
place x xs (Memᴰ.head e) = (0, ap Some (sym e))
place x xs (Memᴰ.tail {xs = ys} m) = let r = place x ys m in (suc r.0, r.1)

there : {A : Type 0} (xs : List A) (k : ℕ) (x : A) → slice_get xs k ≡ Some x → Memᴰ x xs
there [] k x e = absurd (none_some refl e)
there (y ∷ xs) zero x e = Memᴰ.head (sym (some_same refl e))
there (y ∷ xs) (suc k) x e = Memᴰ.tail (there xs k x e)

module _ {S : Type 0} (before : S → S → Bool) (order : Order before) where
  -- codes that begin differently, or alike
  by_first : (s t : S) (c d : List S) → before s t ≡ true → code_before before (s ∷ c) (t ∷ d) ≡ true
  by_first s t c d e = rw e

  by_rest : (s t : S) (c d : List S) → s ≡ t → code_before before c d ≡ true → code_before before (s ∷ c) (t ∷ d) ≡ true
  by_rest s t c d e h = rw (← e, order.irreflexive s) h

  cases : (s t : S) (c d : List S) → code_before before (s ∷ c) (t ∷ d) ≡ true → (before s t ≡ true) ⊎ ((s ≡ t) × (code_before before c d ≡ true))
  cases s t c d h = by (both_ways (before s t)) (both_ways (before t s))
    where
      by : (before s t ≡ true) ⊎ (before s t ≡ false) → (before t s ≡ true) ⊎ (before t s ≡ false) → (before s t ≡ true) ⊎ ((s ≡ t) × (code_before before c d ≡ true))
      by (inl e) f = inl e
      by (inr e) (inl f) = absurd (true_false h (rw (e, f)))
      by (inr e) (inr f) = inr (order.connected s t e f, rw (e, f) at h)

  irreflexive : (c : List S) → code_before before c c ≡ false
  irreflexive [] = refl
  irreflexive (s ∷ c) = rw (order.irreflexive s) (irreflexive c)

  transitive : (c d e : List S) → code_before before c d ≡ true → code_before before d e ≡ true → code_before before c e ≡ true
  transitive [] [] [] p q = q
  transitive [] (t ∷ d) [] p q = q
  transitive [] d (u ∷ e) p q = refl
  transitive (s ∷ c) [] e p q = absurd (true_false p refl)
  transitive (s ∷ c) (t ∷ d) [] p q = q
  transitive (s ∷ c) (t ∷ d) (u ∷ e) p q = by (cases s t c d p) (cases t u d e q) (transitive c d e)
    where
      by : (before s t ≡ true) ⊎ ((s ≡ t) × (code_before before c d ≡ true)) → (before t u ≡ true) ⊎ ((t ≡ u) × (code_before before d e ≡ true)) →
          (code_before before c d ≡ true → code_before before d e ≡ true → code_before before c e ≡ true) → code_before before (s ∷ c) (u ∷ e) ≡ true
      by (inl h) (inl k) on = by_first s u c e (order.transitive s t u h k)
      by (inl h) (inr k) on = by_first s u c e (subst (λ x. before s x ≡ true) k.0 h)
      by (inr h) (inl k) on = by_first s u c e (subst (λ x. before x u ≡ true) (sym h.0) k)
      by (inr h) (inr k) on = by_rest s u c e (h.0 ∙ k.0) (on h.1 k.1)

  connected : (c d : List S) → code_before before c d ≡ false → code_before before d c ≡ false → c ≡ d
  connected [] [] p q = refl
  connected [] (t ∷ d) p q = absurd (true_false refl p)
  connected (s ∷ c) [] p q = absurd (true_false refl q)
  connected (s ∷ c) (t ∷ d) p q = by (both_ways (before s t)) (both_ways (before t s)) (connected c d)
    where
      by : (before s t ≡ true) ⊎ (before s t ≡ false) → (before t s ≡ true) ⊎ (before t s ≡ false) →
          (code_before before c d ≡ false → code_before before d c ≡ false → c ≡ d) → s ∷ c ≡ t ∷ d
      by (inl e) f on = absurd (true_false (by_first s t c d e) p)
      by (inr e) (inl f) on = absurd (true_false (by_first t s d c f) q)
      by (inr e) (inr f) on = ap₂ (λ x y. x ∷ y) (order.connected s t e f) (on (rw (e, f) at p) (rw (f, e) at q))

  pub codes_ordered : Order (code_before before)
  codes_ordered = record { irreflexive = irreflexive; transitive = transitive; connected = connected }

  -- an ascending row
  ascending_apart : (l : List (List S)) → Ascending before l → Apart l
  ascending_apart [] p = tt
  ascending_apart (c ∷ l) p = (λ m. true_false (p.0 c m) (irreflexive c), ascending_apart l p.1)

  earlier_many : (l : List (List S)) → Ascending before l → (k : ℕ) (c : List S) → slice_get l k ≡ Some c → Counts (λ d. Memᴰ d l × (code_before before d c ≡ true)) k
  earlier_many [] p k c e = absurd (none_some refl e)
  earlier_many (x ∷ l) p zero c e =
      record { them = []; apart = tt; sound = λ d m. elim m [ ]; whole = λ d h. absurd (none_earlier d h.0 h.1); many = refl }
    where
      none_earlier : (d : List S) → Memᴰ d (x ∷ l) → code_before before d c ≡ true → ⊥
      none_earlier d (Memᴰ.head q) h = true_false h (ap (λ y. code_before before y c) (q ∙ some_same refl e) ∙ irreflexive c)
      none_earlier d (Memᴰ.tail m) h = not_both (code_before before) codes_ordered d c h (subst (λ y. code_before before y d ≡ true) (some_same refl e) (p.0 d m))
  earlier_many (x ∷ l) p (suc k) c e =
      let r = earlier_many l p.1 k c e in
      record {
        them = x ∷ r.them;
        apart = (λ m. true_false (p.0 x (r.sound x m).0) (irreflexive x), r.apart);
        sound = λ d m. sound r.them r.sound d m;
        whole = λ d h. whole r.them r.whole d h.0 h.1;
        many = ap suc r.many;
      }
    where
      sound : (them : List (List S)) → ((d : List S) → Memᴰ d them → Memᴰ d l × (code_before before d c ≡ true)) →
          (d : List S) → Memᴰ d (x ∷ them) → Memᴰ d (x ∷ l) × (code_before before d c ≡ true)
      sound them old d (Memᴰ.head q) = (Memᴰ.head q, subst (λ y. code_before before y c ≡ true) (sym q) (p.0 c (there l k c e)))
      sound them old d (Memᴰ.tail m) = let s = old d m in (Memᴰ.tail s.0, s.1)

      whole : (them : List (List S)) → ((d : List S) → Memᴰ d l × (code_before before d c ≡ true) → Memᴰ d them) →
          (d : List S) → Memᴰ d (x ∷ l) → code_before before d c ≡ true → Memᴰ d (x ∷ them)
      whole them old d (Memᴰ.head q) h = Memᴰ.head q
      whole them old d (Memᴰ.tail m) h = Memᴰ.tail (old d (m, h))

  module _ (t : Codes S) (proper : Proper before t) where
    members : (c : List S) → Memᴰ c (ordered t) ↔ Member t c
    members c = (ordered_member before order t c, member_ordered before order t c)

    before_it : (k : ℕ) (c : List S) → slice_get (ordered t) k ≡ Some c → Counts (λ d. Member t d × (code_before before d c ≡ true)) k
    before_it k c e =
        let r = earlier_many (ordered t) (ordered_ascending before order t proper) k c e in
        record {
          them = r.them;
          apart = r.apart;
          sound = λ d m. let s = r.sound d m in ((members d).0 s.0, s.1);
          whole = λ d h. r.whole d ((members d).1 h.0, h.1);
          many = r.many;
        }

    pub in_order : InOrder before t
    in_order =
        record {
          ascending = ordered_ascending before order t proper;
          members = members;
          count =
              record {
                them = ordered t;
                apart = ascending_apart (ordered t) (ordered_ascending before order t proper);
                sound = λ c m. (members c).0 m;
                whole = λ c m. (members c).1 m;
                many = refl;
              };
          pick = λ k c. (λ e. ((members c).0 (there (ordered t) k c e), before_it k c e), λ h. picked k c h.0 h.1);
        }
      where
        picked : (k : ℕ) (c : List S) → Member t c → Counts (λ d. Member t d × (code_before before d c ≡ true)) k → slice_get (ordered t) k ≡ Some c
        picked k c m h =
            let r = place c (ordered t) ((members c).1 m) in
            let e : r.0 ≡ k = counts_once (λ d. Member t d × (code_before before d c ≡ true)) r.0 k (before_it r.0 c r.1) h in
            subst (λ j. slice_get (ordered t) j ≡ Some c) e r.1

  pub ordering : Ordering before
  ordering = record { codes_ordered = codes_ordered; each = in_order }
