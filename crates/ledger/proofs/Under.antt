-- What remains under a code.
use Rattle.std.proofs.Common.{◌≡◌, Bool, true, false, cond, List, [], ◌∷◌, ◌++◌, refl}
use Rattle.symbols.specs.Order.{Order, same_symbol}
use Rattle.ledger.specs.Lists.{Codes, none, blank, begun, Proper}
use Rattle.ledger.specs.Operations.{has, under}

module _ {S : Type 0} (before : S → S → Bool) (order : Order before) where
  pub under_has : (t : Codes S) (c d : List S) → has before (under before t c) d ≡ has before t (c ++ d)
  under_has none [] d = refl
  under_has none (s ∷ c) d = refl
  under_has blank [] d = refl
  under_has blank (s ∷ c) d = refl
  under_has (begun a z o) [] d = refl
  under_has (begun a z o) (s ∷ c) d =
      elim (same_symbol before a s) as (λ b. has before (cond b (under before o c) (under before z (s ∷ c))) d ≡ cond b (has before o (c ++ d)) (has before z (s ∷ (c ++ d)))) [
        | true ↦ under_has o c d
        | false ↦ under_has z (s ∷ c) d
      ]

  pub under_proper : (t : Codes S) → Proper before t → (c : List S) → Proper before (under before t c)
  under_proper none p [] = tt
  under_proper none p (s ∷ c) = tt
  under_proper blank p [] = tt
  under_proper blank p (s ∷ c) = tt
  under_proper (begun a z o) p [] = p
  under_proper (begun a z o) p (s ∷ c) =
      elim (same_symbol before a s) as (λ b. Proper before (cond b (under before o c) (under before z (s ∷ c)))) [
        | true ↦ under_proper o p.3 c
        | false ↦ under_proper z p.2 (s ∷ c)
      ]
