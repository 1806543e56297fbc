-- The walk is laying down: a list whose parts are laid down first is laid down all the same.
use Rattle.std.proofs.Common.{◌≡◌, ℕ, zero, suc, ◌<◌, Bool, true, false, ◌⊎◌, List, [], ◌∷◌, ◌++◌, map, length, get_or, Some, sym, refl, ap, ◌∙◌, subst, inl, inr, arith}
use mathlib.Core.Path.{subst⁻¹}
use mathlib.Core.List.{map-append}
use native.Mathlib.Decide.{ℕ_discrete}
use lib.ListN.{length-map, get_or-map}
use Rattle.symbols.specs.Order.{Order}
use Rattle.memory.specs.declared.work.Place.{Place}
use Rattle.memory.proofs.Looks.{looked}
use Rattle.ledger.specs.declared.Vertex.{Vertex}
use Rattle.ledger.specs.Lists.{Codes, none, begun}
use Rattle.std.specs.Option.{option_map}
use Rattle.ledger.specs.Diagrams.{look, parts, Good, Sound}
use Rattle.ledger.specs.Ledger.{listed, position, number, lay, lists, codes}
use Rattle.ledger.proofs.Reading.{true_false}
use Rattle.ledger.proofs.Canon.{vertex_good}
use Rattle.ledger.proofs.Ends.{get_or_front, get_or_last, length_snoc}
use Rattle.ledger.proofs.Rows.{both_ways, Known, known_held, listed_front, listed_get_or, position_below, get_or_position, number_list, lay_known, lay_knows, lay_new, lay_adds, known_laid, still_new}
use Rattle.ledger.proofs.Drawn.{Pictured, pictured}
use Rattle.writing.specs.Met.{list_at, met_numbers, Sparse, Unmet}
use Rattle.writing.specs.Walks.{Passed}

-- what is read of a number is its vertex
pub read_is : {S : Type 0} (vs : List (Vertex S)) (n : ℕ) (label : S) (low high : ℕ) → Some (label, low, high) ≡ option_map parts (look vs n) →
    look vs n ≡ Some (record { label = label; zero = low; one = high })
read_is {S} vs n label low high e =
    let l = looked vs n (label, low, high) e in
    l.1 ∙ ap (λ (t : S × ℕ × ℕ). Some (record { label = t.0; zero = t.1; one = t.2 })) (sym l.2)

module _ {S : Type 0} (before : S → S → Bool) (order : Order before) where
  module _ (row : List (Codes S)) (a : S) (z o : Codes S) (new : listed before row (begun a z o) ≡ false) where
    -- the outer list first
    pub outer_first : lay before (lay before row z) (begun a z o) ≡ lay before row (begun a z o)
    outer_first =
        lay_new before order (lay before row z) a z o (away (both_ways (listed before (lay before row z) (begun a z o)))) ∙
        ap (λ r. lay before r o ++ begun a z o ∷ []) (lay_known before order (lay before row z) z (lay_knows before order row z)) ∙
        sym (lay_new before order row a z o new)
      where
        away : (listed before (lay before row z) (begun a z o) ≡ true) ⊎ (listed before (lay before row z) (begun a z o) ≡ false) → listed before (lay before row z) (begun a z o) ≡ false
        away (inr h) = h
        away (inl h) =
            let more = lay_adds before order (lay before row z) o in
            let there : listed before (lay before (lay before row z) o) (begun a z o) ≡ true =
            subst⁻¹ (λ r. listed before r (begun a z o) ≡ true) more.1 (listed_front before order (lay before row z) more.0 (begun a z o) h) in
            absurd (true_false there (still_new before order row a z o new))

    -- then the inner list
    pub inner_first : Known before row z → lay before (lay before row o) (begun a z o) ≡ lay before row (begun a z o)
    inner_first kz =
        let same : lay before row z ≡ row = lay_known before order row z kz in
        let later : listed before (lay before row o) (begun a z o) ≡ false = subst (λ r. listed before (lay before r o) (begun a z o) ≡ false) same (still_new before order row a z o new) in
        lay_new before order (lay before row o) a z o later ∙
        ap (λ r. lay before r o ++ begun a z o ∷ []) (lay_known before order (lay before row o) z (known_laid before order row o z kz)) ∙
        ap (λ r. r ++ begun a z o ∷ []) (lay_known before order (lay before row o) o (lay_knows before order row o)) ∙
        ap (λ r. lay before r o ++ begun a z o ∷ []) (sym same) ∙
        sym (lay_new before order row a z o new)

    -- then itself
    pub itself_last : Known before row z → Known before row o → lay before row (begun a z o) ≡ row ++ begun a z o ∷ []
    itself_last kz ko =
        lay_new before order row a z o new ∙
        ap (λ r. lay before r o ++ begun a z o ∷ []) (lay_known before order row z kz) ∙
        ap (λ r. r ++ begun a z o ∷ []) (lay_known before order row o ko)

pub length_numbers : (ps : List Place) (m : ℕ) → length (met_numbers ps m) ≡ m
length_numbers ps zero = refl
length_numbers ps (suc m) = length_snoc (met_numbers ps m) (list_at ps m) ∙ ap suc (length_numbers ps m)

pub numbers_at : (ps : List Place) (m k : ℕ) → k < m → get_or (met_numbers ps m) k 0 ≡ list_at ps k
numbers_at ps zero k h = absurd (omega arith)
numbers_at ps (suc m) k h = by (ℕ_discrete k m) (numbers_at ps m k)
  where
    by : Dec (k ≡ m) → (k < m → get_or (met_numbers ps m) k 0 ≡ list_at ps k) → get_or (met_numbers ps m ++ list_at ps m ∷ []) k 0 ≡ list_at ps k
    by (yes e) below =
        ap (λ j. get_or (met_numbers ps m ++ list_at ps m ∷ []) j 0) (e ∙ sym (length_numbers ps m)) ∙ get_or_last (met_numbers ps m) (list_at ps m) 0 ∙ ap (list_at ps) (sym e)
    by (no f) below =
        get_or_front (met_numbers ps m) (list_at ps m ∷ []) k 0 (omega (arith, length_numbers ps m)) ∙ below (omega arith)

-- the lists that are met
abbrev pub met_lists : {S : Type 0} → List (Vertex S) → List Place → ℕ → List (Codes S)
met_lists vs ps m = map (codes vs) (met_numbers ps m)

module _ {S : Type 0} (before : S → S → Bool) (order : Order before) (vs : List (Vertex S)) (sound : Sound before vs) (ps : List Place) (m : ℕ) (sparse : Sparse ps m) (size : length ps ≡ length vs) where
  P : Pictured before order vs
  P = pictured before order vs sound

  pub lists_long : length (met_lists vs ps m) ≡ m
  lists_long = length-map (met_numbers ps m) (codes vs) ∙ length_numbers ps m

  pub lists_at : (k : ℕ) → k < m → get_or (met_lists vs ps m) k none ≡ codes vs (list_at ps k)
  lists_at k h = get_or-map (codes vs) (met_numbers ps m) k 0 ∙ ap (codes vs) (numbers_at ps m k h)

  pub good_at : (k : ℕ) → k < m → Good vs (list_at ps k)
  good_at k h = let was = sparse k h in omega (arith, was.1, size)

  -- what is met is known
  pub passed_known : (link : ℕ) → Passed ps m link → Known before (met_lists vs ps m) (codes vs link)
  passed_known zero p = tt
  passed_known (suc zero) p = tt
  passed_known (suc (suc j)) (inl h) = absurd (omega arith)
  passed_known (suc (suc j)) (inr p) =
      let is : get_or (met_lists vs ps m) p.0 none ≡ codes vs (suc (suc j)) = lists_at p.0 p.1 ∙ ap (codes vs) p.2 in
      let long = lists_long in
      let low = p.1 in
      subst (Known before (met_lists vs ps m)) is
      (known_held before order (met_lists vs ps m) (get_or (met_lists vs ps m) p.0 none)
      (listed_get_or before order (met_lists vs ps m) p.0 none (omega arith)))

  -- one number to a list
  pub number_once : (k n : ℕ) → Good vs k → Good vs n → codes vs k ≡ codes vs n → k ≡ n
  number_once k n gk gn e =
      sym (number_list before order P.ledger k (omega (arith, P.long))) ∙ ap (number before (lists vs)) e ∙ number_list before order P.ledger n (omega (arith, P.long))

  -- where a list stands, its number is met
  pub stands_met : (n : ℕ) (t : Codes S) → Good vs n → codes vs n ≡ t → listed before (met_lists vs ps m) t ≡ true →
      (position before (met_lists vs ps m) t < m) × (list_at ps (position before (met_lists vs ps m) t) ≡ n)
  stands_met n t g is h =
      let low : position before (met_lists vs ps m) t < m = (let p = position_below before order (met_lists vs ps m) t h in omega (arith, lists_long)) in
      let k = position before (met_lists vs ps m) t in
      (low, number_once (list_at ps k) n (good_at k low) g (sym (lists_at k low) ∙ get_or_position before order (met_lists vs ps m) t none h ∙ sym is))

  -- what is not met is new
  pub unmet_new : (n : ℕ) (t : Codes S) → Good vs n → codes vs n ≡ t → Unmet ps m n → listed before (met_lists vs ps m) t ≡ false
  unmet_new n t g is new = by (both_ways (listed before (met_lists vs ps m) t))
    where
      by : (listed before (met_lists vs ps m) t ≡ true) ⊎ (listed before (met_lists vs ps m) t ≡ false) → listed before (met_lists vs ps m) t ≡ false
      by (inr h) = h
      by (inl h) = let at = stands_met n t g is h in absurd (new (position before (met_lists vs ps m) t) at.0 at.1)

  module _ (n : ℕ) (v : Vertex S) (p : look vs n ≡ Some v) (new : Unmet ps m n) where
    is : codes vs n ≡ begun v.label (codes vs v.zero) (codes vs v.one)
    is = P.unfolds n v p

    still : listed before (met_lists vs ps m) (begun v.label (codes vs v.zero) (codes vs v.one)) ≡ false
    still = unmet_new n (begun v.label (codes vs v.zero) (codes vs v.one)) (vertex_good vs n v p) is new

    -- a link that gives way, and a vertex that is met
    pub link_first : (link : ℕ) → (link ≡ v.zero) ⊎ (Passed ps m v.zero × (link ≡ v.one)) →
        lay before (lay before (met_lists vs ps m) (codes vs link)) (codes vs n) ≡ lay before (met_lists vs ps m) (codes vs n)
    link_first link (inl e) =
        rw (e, is) (outer_first before order (met_lists vs ps m) v.label (codes vs v.zero) (codes vs v.one) still)
    link_first link (inr e) =
        rw (e.1, is) (inner_first before order (met_lists vs ps m) v.label (codes vs v.zero) (codes vs v.one) still (passed_known v.zero e.0))

    pub vertex_last : Passed ps m v.zero → Passed ps m v.one → map (codes vs) (met_numbers ps m ++ n ∷ []) ≡ lay before (met_lists vs ps m) (codes vs n)
    vertex_last pz po =
        map-append (codes vs) (met_numbers ps m) (n ∷ []) ∙
        ap (λ t. met_lists vs ps m ++ t ∷ []) is ∙
        sym (itself_last before order (met_lists vs ps m) v.label (codes vs v.zero) (codes vs v.one) still (passed_known v.zero pz) (passed_known v.one po)) ∙
        ap (lay before (met_lists vs ps m)) (sym is)
