-- Where a code leads, symbol by symbol.
use Rattle.std.proofs.Common.{◌≡◌, ℕ, ◌+◌, ◌<◌, ◌≤◌, Bool, true, false, cond, eqb, ◌⊎◌, List, [], ◌∷◌, ◌++◌, length, get_or, take, Some, None, sym, refl, ap, ◌∙◌, inl, inr, append-nil, arith}
use Rattle.std.proofs.lemmas.List.{take_more, take_all}
use Rattle.std.specs.Option.{option_map}
use Rattle.symbols.specs.Order.{Order, same_symbol}
use Rattle.ledger.specs.declared.Vertex.{Vertex}
use Rattle.ledger.specs.Lists.{Codes, none, blank, begun, Comes, Proper}
use Rattle.ledger.specs.Diagrams.{look, parts, Good, Sound}
use Rattle.ledger.specs.Ledger.{codes}
use Rattle.ledger.specs.Operations.{has, under}
use Rattle.ledger.proofs.Rows.{both_ways}
use Rattle.ledger.proofs.Under.{under_has}
use Rattle.paths.specs.Asked.{Numbers, Leads}
use Rattle.paths.proofs.Seeing.{seen, unseen, number_is}

module _ {S : Type 0} (before : S → S → Bool) (order : Order before) where
  pub differs : (a b : S) → before a b ≡ true → same_symbol before a b ≡ false
  differs a b h = rw h

  differs_back : (a b : S) → before b a ≡ true → same_symbol before a b ≡ false
  differs_back a b h = by (both_ways (before a b))
    where
      by : (before a b ≡ true) ⊎ (before a b ≡ false) → same_symbol before a b ≡ false
      by (inl e) = rw e
      by (inr e) = rw (e, h)

  under_nil : (t : Codes S) → under before t [] ≡ t
  under_nil none = refl
  under_nil blank = refl
  under_nil (begun a z o) = refl

  -- nothing remains under a symbol that comes before the head
  under_early : (t : Codes S) (s : S) (c : List S) → Proper before t → Comes before s t → under before t (s ∷ c) ≡ none
  under_early none s c p k = refl
  under_early blank s c p k = refl
  under_early (begun b y q) s c p k = rw (differs_back b s k) (under_early y s c p.2 (earlier y p.0))
    where
      earlier : (t : Codes S) → Comes before b t → Comes before s t
      earlier none h = tt
      earlier blank h = tt
      earlier (begun d x w) h = order.transitive s b d k h

  pub has_early : (t : Codes S) (s : S) (c : List S) → Proper before t → Comes before s t → has before t (s ∷ c) ≡ false
  has_early t s c p k = sym (under_has before order t (s ∷ c) [] ∙ ap (has before t) (append-nil (s ∷ c))) ∙ ap (λ u. has before u []) (under_early t s c p k)

  under_more : (t : Codes S) (c d : List S) → under before t (c ++ d) ≡ under before (under before t c) d
  under_more none [] d = refl
  under_more none (s ∷ c) [] = refl
  under_more none (s ∷ c) (u ∷ d) = refl
  under_more blank [] d = refl
  under_more blank (s ∷ c) [] = refl
  under_more blank (s ∷ c) (u ∷ d) = refl
  under_more (begun a z o) [] d = refl
  under_more (begun a z o) (s ∷ c) d =
      elim (same_symbol before a s) as (λ b. cond b (under before o (c ++ d)) (under before z (s ∷ (c ++ d))) ≡ under before (cond b (under before o c) (under before z (s ∷ c))) d) [
        | true ↦ under_more o c d
        | false ↦ under_more z (s ∷ c) d
      ]

  module _ (vs : List (Vertex S)) (sound : Sound before vs) where
    -- one symbol
    module _ (n : ℕ) (l : S) (z o : ℕ) (e : Some (l, z, o) ≡ option_map parts (look vs n)) (s : S) where
      pub lead_past : before l s ≡ true → Good vs z × (under before (codes vs n) (s ∷ []) ≡ under before (codes vs z) (s ∷ []))
      lead_past h =
          let k = seen before order vs sound n l z o e in
          (k.zero_good, ap (λ t. under before t (s ∷ [])) k.is ∙ ap (λ b. cond b (under before (codes vs o) []) (under before (codes vs z) (s ∷ []))) (differs l s h))

      pub lead_early : before s l ≡ true → Leads before vs (codes vs n) (s ∷ []) 0
      lead_early h =
          let k = seen before order vs sound n l z o e in
          (omega arith, sym (ap (λ t. under before t (s ∷ [])) k.is ∙ under_early (begun l (codes vs z) (codes vs o)) s [] k.proper h))

      pub lead_in : before l s ≡ false → before s l ≡ false → Leads before vs (codes vs n) (s ∷ []) o
      lead_in h i =
          let k = seen before order vs sound n l z o e in
          let same : same_symbol before l s ≡ true = rw (h, i) refl in
          (k.one_good, sym (ap (λ t. under before t (s ∷ [])) k.is ∙ ap (λ b. cond b (under before (codes vs o) []) (under before (codes vs z) (s ∷ []))) same ∙ under_nil (codes vs o)))

    pub lead_out : (n : ℕ) → None ≡ option_map parts (look vs n) → Good vs n → (s : S) → Leads before vs (codes vs n) (s ∷ []) 0
    lead_out n e g s = (omega arith, by (unseen before order vs sound n e g))
      where
        by : (n ≡ 0) ⊎ (n ≡ 1) → none ≡ under before (codes vs n) (s ∷ [])
        by (inl p) = ap (λ k. under before (codes vs k) (s ∷ [])) (sym p)
        by (inr p) = ap (λ k. under before (codes vs k) (s ∷ [])) (sym p)

    -- the symbols of a code, one after another
    pub lead_none : (n : ℕ) → Good vs n → (code : List S) → Leads before vs (codes vs n) (take 0 code) n
    lead_none n g code = (g, sym (under_nil (codes vs n)))

    pub lead_more : (n : ℕ) (code : List S) (i m r : ℕ) (s : S) → i < length code → s ≡ get_or code i s →
        Leads before vs (codes vs n) (take i code) m → Leads before vs (codes vs m) (s ∷ []) r → Leads before vs (codes vs n) (take (i + 1) code) r
    lead_more n code i m r s h e one two =
        let front : take (i + 1) code ≡ take i code ++ s ∷ [] = take_more code i s h ∙ ap (λ x. take i code ++ x ∷ []) (sym e) in
        (two.0, two.1 ∙ ap (λ t. under before t (s ∷ [])) one.1 ∙ sym (under_more (codes vs n) (take i code) (s ∷ [])) ∙ ap (under before (codes vs n)) (sym front))

    pub led : (n : ℕ) (code : List S) (i r : ℕ) → length code ≤ i → Leads before vs (codes vs n) (take i code) r → Leads before vs (codes vs n) code r
    led n code i r end h = (h.0, h.1 ∙ ap (under before (codes vs n)) (take_all i code end))

    pub led_number : (n : ℕ) (code : List S) (r : ℕ) → Leads before vs (codes vs n) code r → Numbers before vs (under before (codes vs n) code) r
    led_number n code r h = (h.0, h.1, number_is before order vs sound r h.0 (under before (codes vs n) code) h.1)

    pub led_member : (n : ℕ) (code : List S) (r : ℕ) → Leads before vs (codes vs n) code r → has before (codes vs r) [] ≡ has before (codes vs n) code
    led_member n code r h = ap (λ t. has before t []) h.1 ∙ under_has before order (codes vs n) code [] ∙ ap (has before (codes vs n)) (append-nil code)

    -- the empty code
    pub empty_past : (n : ℕ) (l : S) (z o : ℕ) → Some (l, z, o) ≡ option_map parts (look vs n) → Good vs z × (has before (codes vs n) [] ≡ has before (codes vs z) [])
    empty_past n l z o e = let k = seen before order vs sound n l z o e in (k.zero_good, ap (λ t. has before t []) k.is)

    pub empty_end : (n : ℕ) → None ≡ option_map parts (look vs n) → Good vs n → eqb n 1 ≡ has before (codes vs n) []
    empty_end n e g = by (unseen before order vs sound n e g)
      where
        by : (n ≡ 0) ⊎ (n ≡ 1) → eqb n 1 ≡ has before (codes vs n) []
        by (inl p) = rw p refl
        by (inr p) = rw p refl
