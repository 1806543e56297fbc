-- How many codes a list has, from its outer and its inner list.
use Rattle.std.proofs.Common.{◌≡◌, ℕ, ◌+◌, Bool, true, false, List, ◌∷◌, ◌++◌, map, length, Some, Option, sym, ap, ◌∙◌, arith, length-append}
use mathlib.Core.Path.{subst⁻¹}
use mir.Val.{bool_byte}
use lib.ListN.{length-map}
use Rattle.std.specs.Option.{option_map}
use Rattle.symbols.specs.Order.{Order}
use Rattle.ledger.specs.Lists.{Codes, begun}
use Rattle.ledger.specs.declared.Vertex.{Vertex}
use Rattle.ledger.specs.Diagrams.{look, parts, Formed}
use Rattle.ledger.specs.Ledger.{codes}
use Rattle.ledger.specs.Ordered.{ordered, later_codes, with_empty, blank_in}
use Rattle.ledger.proofs.Draws.{codes_formed}
use Rattle.memory.proofs.Looks.{looked}
use Rattle.counting.specs.declared.tallying.Tally.{Tally}
use Rattle.counting.specs.Tallies.{Counted, Tells}

length_with : {S : Type 0} (b : Bool) (l : List (List S)) → length (with_empty b l) ≡ bool_byte b + length l
length_with true l = omega arith
length_with false l = omega arith

-- the codes of a list are those of its inner list and those of its outer list
pub length_begun : {S : Type 0} (a : S) (z o : Codes S) → length (ordered (begun a z o)) ≡ length (ordered z) + length (ordered o)
length_begun a z o =
    let l = length_with (blank_in z) (map (λ c. a ∷ c) (ordered o) ++ later_codes z) in
    let m = length_with (blank_in z) (later_codes z) in
    let p = length-append (map (λ c. a ∷ c) (ordered o)) (later_codes z) in
    let q = length-map (ordered o) (λ c. a ∷ c) in
    omega arith

-- the list of a vertex that was read
pub read_codes : {S : Type 0} (before : S → S → Bool) (order : Order before) (vs : List (Vertex S)) → Formed before vs → (n : ℕ) (t : S × ℕ × ℕ) →
    Some t ≡ option_map parts (look vs n) → codes vs n ≡ begun t.0 (codes vs t.1) (codes vs t.2)
read_codes {S} before order vs formed n t e =
    let l = looked vs n t e in
    codes_formed before order vs formed n l.0 l.1 ∙ ap (λ (x : S × ℕ × ℕ). begun x.0 (codes vs x.1) (codes vs x.2)) (sym l.2)

-- a tally from those of the outer and the inner list
pub tells_begun : {S : Type 0} (t : Codes S) (a : S) (z o : Codes S) → t ≡ begun a z o → (outer inner : Tally) → Tells z outer → Tells o inner →
    (sum : Option ℕ) → ((m k : ℕ) → Counted m outer.codes → Counted k inner.codes → Counted (m + k) sum) →
    Tells t (record { codes = sum; empty = outer.empty })
tells_begun t a z o e outer inner p q sum adds =
    record {
      many = subst⁻¹ (λ m. Counted m sum) (ap (λ u. length (ordered u)) e ∙ length_begun a z o) (adds (length (ordered z)) (length (ordered o)) p.many q.many);
      blank = p.blank ∙ ap blank_in (sym e);
    }
