-- A vertex over two lists that are laid down lays down the list that they make, or does not fit.
use Rattle.std.proofs.Common.{◌≡◌, ℕ, suc, ◌<◌, ◌≤◌, Bool, true, false, ◌≢◌, ◌⊎◌, List, [], ◌∷◌, ◌++◌, length, Some, None, Ok, Err, Result, sym, refl, ap, ◌∙◌, subst, inl, inr, append-nil, arith, length-append}
use mathlib.Core.Path.{subst⁻¹}
use Rattle.symbols.specs.Order.{Order}
use Rattle.ledger.specs.declared.Vertex.{Vertex}
use Rattle.ledger.specs.Lists.{Codes, none, blank, begun, Proper}
use Rattle.ledger.specs.Diagrams.{Sound}
use Rattle.ledger.specs.Ledger.{listed, lay, lists, codes, number, vertices_of}
use Rattle.ledger.specs.Laid.{Laid, First}
use Rattle.ledger.specs.Operations.{make}
use Rattle.ledger.proofs.Drawn.{pictured}
use Rattle.ledger.proofs.Ends.{length_snoc}
use Rattle.ledger.proofs.Laying.{laid_found, laid_append, lay_found, lay_append}
use Rattle.ledger.proofs.Rows.{Ledger, both_ways, lay_adds, number_list}
use Rattle.memory.specs.declared.shelf.Full.{Full}
use Rattle.memory.specs.Shelves.{vertex, Appends}
use Rattle.joining.specs.Walks.{Coupled}

-- something inside: the list is begun
pub make_some : {S : Type 0} (a : S) (z o : Codes S) → o ≢ none → make a z o ≡ begun a z o
make_some a z none h = absurd (h refl)
make_some a z blank h = refl
make_some a z (begun b y p) h = refl

module _ {S : Type 0} (before : S → S → Bool) (order : Order before) where
  -- laying down what two lists make needs at least the places of these two
  inner_longer : {row : List (Codes S)} → Ledger before row → (a : S) (z o : Codes S) → length (lay before (lay before row z) o) ≤ length (lay before row (begun a z o))
  inner_longer {row} L a z o = by (both_ways (listed before (lay before (lay before row z) o) (begun a z o)))
    where
      by : (listed before (lay before (lay before row z) o) (begun a z o) ≡ true) ⊎ (listed before (lay before (lay before row z) o) (begun a z o) ≡ false) →
          length (lay before (lay before row z) o) ≤ length (lay before row (begun a z o))
      by (inl e) = let l = ap length (lay_found before order L a z o e) in omega arith
      by (inr e) = let l = ap length (lay_append before order L a z o e) ∙ length_snoc (lay before (lay before row z) o) (begun a z o) in omega arith

  pub made_longer : {row : List (Codes S)} → Ledger before row → (a : S) (z o : Codes S) → length (lay before (lay before row z) o) ≤ length (lay before row (make a z o))
  made_longer {row} L a z none = let e : length (lay before row z) ≡ length (lay before row z) = refl in omega arith
  made_longer {row} L a z blank = inner_longer L a z blank
  made_longer {row} L a z (begun b y p) = inner_longer L a z (begun b y p)

  pub outer_longer : {row : List (Codes S)} → Ledger before row → (a : S) (z o : Codes S) → length (lay before row z) ≤ length (lay before row (make a z o))
  outer_longer {row} L a z o =
      let d = lay_adds before order (lay before row z) o in
      let l = ap length d.1 ∙ length-append (lay before row z) d.0 in
      let m = made_longer L a z o in
      omega arith

  -- what coupling two lists comes to: the list that they make is laid down; or it is too long
  abbrev pub Couples : List (Vertex S) → Codes S → ℕ → List (Vertex S) → Result ℕ Full → List (Vertex S) → Type 0
  Couples base t capacity vs (Ok n) ws = Laid before base t ws n × ((more : List (Vertex S)) × (ws ≡ vs ++ more))
  Couples base t capacity vs (Err e) ws = (capacity < length (lay before (lists base) t)) × (ws ≡ vs)

  module _ (base mid vs : List (Vertex S)) (sound : Sound before base) (z o : Codes S) (low high : ℕ) (outer : Laid before base z mid low) (inner : Laid before mid o vs high) (a : S) where
    -- nothing inside: nothing was laid down for it
    empty_inner : high ≡ 0 → o ≡ none
    empty_inner e = sym inner.is ∙ ap (codes vs) e

    nothing_added : high ≡ 0 → vs ≡ mid
    nothing_added e =
        sym (pictured before order vs inner.sound).back ∙
        ap (vertices_of before) (inner.row ∙ ap (lay before (lists mid)) (empty_inner e)) ∙
        (pictured before order mid outer.sound).back

    some_inner : high ≢ 0 → o ≢ none
    some_inner h e =
        let P = pictured before order vs inner.sound in
        let n = number_list before order P.ledger high (omega (arith, P.long, inner.good)) in
        h (sym n ∙ ap (number before (lists vs)) (inner.is ∙ e))

    module _ (proper : Proper before (make a z o)) (capacity : ℕ) (ws : List (Vertex S)) where
      alone : (r : Result ℕ Full) → high ≡ 0 → r ≡ Ok low → ws ≡ vs → Couples base (make a z o) capacity vs r ws
      alone r e is same =
          let here : Laid before base z ws low = subst⁻¹ (λ (us : List (Vertex S)). Laid before base z us low) (same ∙ nothing_added e) outer in
          let made : make a z o ≡ z = ap (make a z) (empty_inner e) in
          subst⁻¹ (λ (x : Result ℕ Full). Couples base (make a z o) capacity vs x ws) is
          (subst⁻¹ (λ (t : Codes S). Laid before base t ws low) made here, ([], same ∙ sym (append-nil vs)))

      there : (r : Result ℕ Full) → high ≢ 0 → (n : ℕ) → First vs (vertex a low high) (Some n) → r ≡ Ok n → ws ≡ vs → Couples base (make a z o) capacity vs r ws
      there r h n first is same =
          let here = laid_found before order base mid vs sound z o low high outer inner a n first.0 in
          subst⁻¹ (λ (x : Result ℕ Full). Couples base (make a z o) capacity vs x ws) is (
            subst⁻¹ (λ (us : List (Vertex S)). Laid before base (make a z o) us n) same (subst⁻¹ (λ (t : Codes S). Laid before base t vs n) (make_some a z o (some_inner h)) here),
            ([], same ∙ sym (append-nil vs)),
          )

      module _ (h : high ≢ 0) (first : First vs (vertex a low high) None) where
        more : Laid before base (make a z o) (vs ++ vertex a low high ∷ []) (suc (suc (length vs)))
        more =
            let is = make_some a z o (some_inner h) in
            subst⁻¹ (λ (t : Codes S). Laid before base t (vs ++ vertex a low high ∷ []) (suc (suc (length vs)))) is
            (laid_append before order base mid vs sound z o low high outer inner a first (subst (Proper before) is proper))

        appended : (r : Result ℕ Full) → Appends capacity vs (vertex a low high) r ws → Couples base (make a z o) capacity vs r ws
        appended (Ok n) e =
            let is : n ≡ suc (suc (length vs)) = omega (arith, e.2) in (
              subst⁻¹ (λ (us : List (Vertex S)). Laid before base (make a z o) us n) e.1 (subst⁻¹ (λ (k : ℕ). Laid before base (make a z o) (vs ++ vertex a low high ∷ []) k) is more),
              (vertex a low high ∷ [], e.1),
            )
        appended (Err full) e =
            let P = pictured before order (vs ++ vertex a low high ∷ []) more.sound in
            let l = sym P.long ∙ ap length more.row in
            let s = length_snoc vs (vertex a low high) in
            let c = e.0 in
            (omega arith, e.1)

      pub couples : (r : Result ℕ Full) → Coupled capacity vs a low high r ws → Couples base (make a z o) capacity vs r ws
      couples r (inl e) = alone r e.0 e.1 e.2
      couples r (inr (h, inl e)) = there r h e.0 e.1 e.2 e.3
      couples r (inr (h, inr e)) = appended h e.0 r e.1
