-- A list changed by a code, symbol by symbol.
use Rattle.std.proofs.Common.{◌≡◌, Bool, true, false, ◌⊎◌, List, [], ◌∷◌, sym, refl, ap, ◌∙◌, inl, inr}
use Rattle.symbols.specs.Order.{Order}
use Rattle.ledger.specs.declared.Vertex.{Vertex}
use Rattle.ledger.specs.Lists.{Codes, none, blank, begun, SomeCode, Proper}
use Rattle.ledger.specs.Ledger.{codes}
use Rattle.ledger.specs.Operations.{has, takes, make, join, single}
use Rattle.ledger.proofs.Rows.{both_ways}
use Rattle.ledger.proofs.Sets.{proper_same}
use Rattle.ledger.proofs.Joins.{join_right}
use Rattle.ledger.proofs.Orders.{has_in, in_has}
use Rattle.ledger.proofs.Finite.{single_proper, single_in}
use Rattle.paths.specs.declared.changing.Change.{Change}
use Rattle.paths.specs.declared.changing.Change.TheVariants.{Add, Remove}
use Rattle.paths.specs.Changed.{rule, changed, as_it_is, end_number}

pub make_some : {S : Type 0} (a : S) (z o : Codes S) → SomeCode o → make a z o ≡ begun a z o
make_some a z none k = absurd k
make_some a z blank k = refl
make_some a z (begun b y p) k = refl

module _ {S : Type 0} (before : S → S → Bool) where
  join_none : (change : Change) (t : Codes S) → join before (takes (rule change)) t none ≡ t
  join_none Add none = refl
  join_none Add blank = refl
  join_none Add (begun a z o) = refl
  join_none Remove none = refl
  join_none Remove blank = refl
  join_none Remove (begun a z o) = refl

  -- at the end of the code
  pub changed_past_end : (change : Change) (l : S) (z o : Codes S) → changed before change (begun l z o) [] ≡ make l (changed before change z []) o
  changed_past_end Add l z o = refl
  changed_past_end Remove l z o = refl

  pub changed_end_none : (change : Change) (vs : List (Vertex S)) → changed before change none [] ≡ codes vs (end_number change)
  changed_end_none Add vs = refl
  changed_end_none Remove vs = refl

  pub changed_end_blank : (change : Change) (vs : List (Vertex S)) → changed before change blank [] ≡ codes vs (end_number change)
  changed_end_blank Add vs = refl
  changed_end_blank Remove vs = refl

  -- at a symbol
  pub changed_past : (change : Change) (l : S) (z o : Codes S) (x : S) (xs : List S) → before l x ≡ true →
      changed before change (begun l z o) (x ∷ xs) ≡ make l (changed before change z (x ∷ xs)) o
  changed_past Add l z o x xs h = rw h refl
  changed_past Remove l z o x xs h = rw h refl

  pub changed_ahead : (change : Change) (l : S) (z o : Codes S) (x : S) (xs : List S) → before l x ≡ false → before x l ≡ true →
      changed before change (begun l z o) (x ∷ xs) ≡ make x (begun l z o) (changed before change none xs)
  changed_ahead Add l z o x xs h i = rw (h, i) refl
  changed_ahead Remove l z o x xs h i = rw (h, i) refl

  pub changed_in : (change : Change) (l : S) (z o : Codes S) (x : S) (xs : List S) → before l x ≡ false → before x l ≡ false →
      changed before change (begun l z o) (x ∷ xs) ≡ make l z (changed before change o xs)
  changed_in Add l z o x xs h i = rw (h, i) (ap (λ t. make l t (changed before Add o xs)) (join_none Add z))
  changed_in Remove l z o x xs h i = rw (h, i) (ap (λ t. make l t (changed before Remove o xs)) (join_none Remove z))

  pub changed_none : (change : Change) (x : S) (xs : List S) → changed before change none (x ∷ xs) ≡ make x none (changed before change none xs)
  changed_none Add x [] = refl
  changed_none Add x (y ∷ ys) = refl
  changed_none Remove x xs = refl

  pub changed_blank : (change : Change) (x : S) (xs : List S) → changed before change blank (x ∷ xs) ≡ make x blank (changed before change none xs)
  changed_blank Add x xs = refl
  changed_blank Remove x xs = refl

module _ {S : Type 0} (before : S → S → Bool) (order : Order before) where
  pub changed_proper : (change : Change) (t : Codes S) (c : List S) → Proper before t → Proper before (changed before change t c)
  changed_proper change t c p = (join_right before order (takes (rule change)) refl t (single c) p (single_proper before c)).proper

  -- a code that is in already, or not in, changes nothing
  module _ (change : Change) (t : Codes S) (c : List S) (proper : Proper before t) (settled : as_it_is change (has before t c) ≡ true) where
    others : (change : Change) (b : Bool) → takes (rule change) b false ≡ b
    others Add true = refl
    others Add false = refl
    others Remove true = refl
    others Remove false = refl

    itself : (change : Change) (b : Bool) → as_it_is change b ≡ true → takes (rule change) b true ≡ b
    itself Add true e = refl
    itself Add false e = cc
    itself Remove true e = cc
    itself Remove false e = refl

    has_same : (d : List S) → has before (changed before change t c) d ≡ has before t d
    has_same d = (join_right before order (takes (rule change)) refl t (single c) proper (single_proper before c)).right d ∙ by (both_ways (has before (single c) d))
      where
        by : (has before (single c) d ≡ true) ⊎ (has before (single c) d ≡ false) → takes (rule change) (has before t d) (has before (single c) d) ≡ has before t d
        by (inr e) = ap (takes (rule change) (has before t d)) e ∙ others change (has before t d)
        by (inl e) =
            let here : d ≡ c = single_in c d (has_in before order (single c) d e) in
            ap (takes (rule change) (has before t d)) e ∙ itself change (has before t d) (ap (λ x. as_it_is change (has before t x)) here ∙ settled)

    pub unchanged : changed before change t c ≡ t
    unchanged =
        let after = changed_proper change t c proper in
        proper_same before order (changed before change t c) t after proper
        (λ d. (
          λ m. has_in before order t d (sym (has_same d) ∙ in_has before order (changed before change t c) after d m),
          λ m. has_in before order (changed before change t c) d (has_same d ∙ in_has before order t proper d m),
        ))
