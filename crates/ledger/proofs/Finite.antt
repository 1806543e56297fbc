-- Every finite set of codes is a list.
use Rattle.std.proofs.Common.{◌≡◌, Bool, true, false, ◌⊎◌, ◌↔◌, List, [], ◌∷◌, sym, refl, ap, ◌∙◌, inl, inr}
use mathlib.Core.Path.{subst⁻¹}
use mathlib.Core.List.{Memᴰ}
use Rattle.symbols.specs.Order.{Order}
use Rattle.ledger.specs.Lists.{Codes, none, Member, SomeCode, Proper}
use Rattle.ledger.specs.Operations.{has, join, single}
use Rattle.ledger.proofs.Rows.{both_ways}
use Rattle.ledger.proofs.Joins.{join_right}
use Rattle.ledger.proofs.Orders.{has_in, in_has}

abbrev either : Bool → Bool → Bool
either true y = true
either false y = y

single_some : {S : Type 0} (c : List S) → SomeCode (single c)
single_some [] = tt
single_some (s ∷ c) = tt

pub single_proper : {S : Type 0} (before : S → S → Bool) (c : List S) → Proper before (single c)
single_proper before [] = tt
single_proper before (s ∷ c) = (tt, single_some c, tt, single_proper before c)

pub single_in : {S : Type 0} (c d : List S) → Member (single c) d → d ≡ c
single_in [] d m = m
single_in (s ∷ c) d (inl m) = absurd m
single_in (s ∷ c) d (inr m) = m.1 ∙ ap (λ x. s ∷ x) (single_in c m.0 m.2)

pub in_single : {S : Type 0} (c : List S) → Member (single c) c
in_single [] = refl
in_single (s ∷ c) = inr (c, refl, in_single c)

module _ {S : Type 0} (before : S → S → Bool) (order : Order before) where
  either_in : (t u : Codes S) → Proper before t → Proper before u → (c : List S) → Member (join before either t u) c → Member t c ⊎ Member u c
  either_in t u pt pu c m = by (both_ways (has before t c))
    where
      J : has before (join before either t u) c ≡ either (has before t c) (has before u c)
      J = (join_right before order either refl t u pt pu).right c

      held : has before (join before either t u) c ≡ true
      held = in_has before order (join before either t u) (join_right before order either refl t u pt pu).proper c m

      by : (has before t c ≡ true) ⊎ (has before t c ≡ false) → Member t c ⊎ Member u c
      by (inl e) = inl (has_in before order t c e)
      by (inr e) = inr (has_in before order u c (ap (λ b. either b (has before u c)) (sym e) ∙ sym J ∙ held))

  in_either : (t u : Codes S) → Proper before t → Proper before u → (c : List S) → Member t c ⊎ Member u c → Member (join before either t u) c
  in_either t u pt pu c m = has_in before order (join before either t u) c ((join_right before order either refl t u pt pu).right c ∙ by m)
    where
      by : Member t c ⊎ Member u c → either (has before t c) (has before u c) ≡ true
      by (inl k) = ap (λ b. either b (has before u c)) (in_has before order t pt c k)
      by (inr k) = ap (either (has before t c)) (in_has before order u pu c k) ∙ elim (has before t c) as (λ b. either b true ≡ true) [ true ↦ refl | false ↦ refl ]

  pub from_codes : (cs : List (List S)) → (t : Codes S) × Proper before t × ((c : List S) → Member t c ↔ Memᴰ c cs)
  from_codes [] = (none, tt, λ c. (λ m. absurd m, λ m. elim m [ ]))
  from_codes (d ∷ cs) =
      let r = from_codes cs in (
        join before either r.0 (single d),
        (join_right before order either refl r.0 (single d) r.1 (single_proper before d)).proper,
        λ c. (
          λ m. there r.0 c (λ k. (r.2 c).0 k) (either_in r.0 (single d) r.1 (single_proper before d) c m),
          λ m. in_either r.0 (single d) r.1 (single_proper before d) c (back r.0 c (λ k. (r.2 c).1 k) m),
        ),
      )
    where
      there : (t : Codes S) (c : List S) → (Member t c → Memᴰ c cs) → Member t c ⊎ Member (single d) c → Memᴰ c (d ∷ cs)
      there t c h (inl k) = Memᴰ.tail (h k)
      there t c h (inr k) = Memᴰ.head (single_in d c k)

      back : (t : Codes S) (c : List S) → (Memᴰ c cs → Member t c) → Memᴰ c (d ∷ cs) → Member t c ⊎ Member (single d) c
      back t c h (Memᴰ.head e) = inr (subst⁻¹ (Member (single d)) e (in_single d))
      back t c h (Memᴰ.tail k) = inl (h k)
