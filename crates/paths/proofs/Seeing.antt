-- What a vertex that is read says of lists, in a sound row.
use Rattle.std.proofs.Common.{◌≡◌, ℕ, Bool, ◌⊎◌, List, Some, None, sym, ap, ◌∙◌, subst, arith}
use Rattle.std.specs.Option.{option_map}
use Rattle.symbols.specs.Order.{Order}
use Rattle.ledger.specs.declared.Vertex.{Vertex}
use Rattle.ledger.specs.Lists.{Codes, begun, Proper}
use Rattle.ledger.specs.Diagrams.{look, parts, Good, Sound}
use Rattle.ledger.specs.Ledger.{number, lists, codes}
use Rattle.ledger.proofs.Canon.{vertex_good}
use Rattle.ledger.proofs.Draws.{terminal}
use Rattle.ledger.proofs.Rows.{number_list}
use Rattle.ledger.proofs.Drawn.{pictured, codes_proper}
use Rattle.memory.specs.Shelves.{vertex}
use Rattle.memory.proofs.Looks.{looked, unlooked}

-- a vertex of a sound row
pub record Seen {S : Type 0} (before : S → S → Bool) (vs : List (Vertex S)) (n : ℕ) (l : S) (z o : ℕ) : Type 0 where
  pub at : look vs n ≡ Some (vertex l z o)
  pub is : codes vs n ≡ begun l (codes vs z) (codes vs o)
  pub zero_good : Good vs z
  pub one_good : Good vs o
  pub proper : Proper before (begun l (codes vs z) (codes vs o))

module _ {S : Type 0} (before : S → S → Bool) (order : Order before) (vs : List (Vertex S)) (sound : Sound before vs) where
  pub looked_seen : (n : ℕ) (l : S) (z o : ℕ) → look vs n ≡ Some (vertex l z o) → Seen before vs n l z o
  looked_seen n l z o e =
      let P = pictured before order vs sound in
      let g = vertex_good vs n (vertex l z o) e in
      let zb = sound.formed.zero_below n (vertex l z o) e in
      let ob = sound.formed.one_below n (vertex l z o) e in
      record {
        at = e;
        is = P.unfolds n (vertex l z o) e;
        zero_good = omega arith;
        one_good = omega arith;
        proper = subst (Proper before) (P.unfolds n (vertex l z o) e) (codes_proper before order vs sound n g);
      }

  pub seen : (n : ℕ) (l : S) (z o : ℕ) → Some (l, z, o) ≡ option_map parts (look vs n) → Seen before vs n l z o
  seen n l z o e =
      let r = looked vs n (l, z, o) e in
      let same : r.0 ≡ vertex l z o = let k = sym r.2 in λ i. vertex (k i).0 (k i).1 (k i).2 in
      looked_seen n l z o (r.1 ∙ ap Some same)

  -- a good number without a vertex is a terminal
  pub unseen : (n : ℕ) → None ≡ option_map parts (look vs n) → Good vs n → (n ≡ 0) ⊎ (n ≡ 1)
  unseen n e g = terminal vs n g (unlooked vs n e)

  -- numbers are lists
  pub number_is : (n : ℕ) → Good vs n → (t : Codes S) → codes vs n ≡ t → n ≡ number before (lists vs) t
  number_is n g t e =
      let P = pictured before order vs sound in
      sym (number_list before order P.ledger n (omega (arith, P.long))) ∙ ap (number before (lists vs)) e
