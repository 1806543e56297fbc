-- Laid down step by step is laid down, and leaves the vertices sound.
use Rattle.std.proofs.Common.{◌≡◌, ℕ, Bool, List, length, sym, ap, ◌∙◌, ap₂, arith}
use Rattle.symbols.specs.Order.{Order}
use Rattle.ledger.specs.Lists.{Codes, Proper}
use Rattle.ledger.specs.declared.Vertex.{Vertex}
use Rattle.ledger.specs.Diagrams.{Sound}
use Rattle.ledger.specs.Ledger.{number, lay, list_in, lists, vertices_of, down, down_number}
use Rattle.ledger.specs.Laid.{Laid}
use Rattle.ledger.proofs.Rows.{lay_ledger, lay_knows, number_good, list_number, number_list}
use Rattle.ledger.proofs.Drawn.{pictured, lists_vertices_of}
use Rattle.ledger.proofs.Gathering.{ledger_sound}

module _ {S : Type 0} (before : S → S → Bool) (order : Order before) where
  pub down_sound : (vs : List (Vertex S)) (t : Codes S) → Sound before vs → Proper before t → Sound before (down before vs t)
  down_sound vs t s p = ledger_sound before order (lay_ledger before order (lists vs) t (pictured before order vs s).ledger p)

  -- what a store has done step by step is what laying down means
  pub laid_is : (vs : List (Vertex S)) (t : Codes S) (ws : List (Vertex S)) (r : ℕ) → Laid before vs t ws r → (ws ≡ down before vs t) × (r ≡ down_number before vs t)
  laid_is vs t ws r l =
      let P = pictured before order ws l.sound in (
        sym P.back ∙ ap (vertices_of before) l.row,
        sym (number_list before order P.ledger r (omega (arith, P.long, l.good))) ∙ ap₂ (number before) l.row l.is,
      )

  pub is_laid : (vs : List (Vertex S)) (t : Codes S) → Sound before vs → Proper before t → Laid before vs t (down before vs t) (down_number before vs t)
  is_laid vs t s p =
      let L = lay_ledger before order (lists vs) t (pictured before order vs s).ledger p in
      let rows = lists_vertices_of before order L in
      let P = pictured before order (down before vs t) (down_sound vs t s p) in
      let long : length (lay before (lists vs) t) ≡ length (down before vs t) = ap length (sym rows) ∙ P.long in
      record {
        sound = down_sound vs t s p;
        row = rows;
        good = omega (arith, number_good before order (lay before (lists vs) t) t (lay_knows before order (lists vs) t));
        is = ap (λ r. list_in r (down_number before vs t)) rows ∙ list_number before order (lay before (lists vs) t) t (lay_knows before order (lists vs) t);
      }
