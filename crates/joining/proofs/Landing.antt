-- A list that a walk has laid down, or that did not fit, as the ledger says it.
use Rattle.std.proofs.Common.{◌≡◌, ℕ, ◌≤◌, Bool, List, length, Ok, Err, Option, Result, false, is_err, ap, arith}
use mathlib.Core.Path.{subst⁻¹}
use Rattle.symbols.specs.Order.{Order}
use Rattle.ledger.specs.declared.Vertex.{Vertex}
use Rattle.ledger.specs.Lists.{Codes}
use Rattle.ledger.specs.Ledger.{lay, lists, down, down_number, Lays}
use Rattle.ledger.specs.Laid.{Laid}
use Rattle.ledger.proofs.Downs.{laid_is}
use Rattle.ledger.proofs.Drawn.{pictured}
use Rattle.memory.specs.declared.recall.Question.{Question}
use Rattle.memory.specs.declared.shelf.Full.{Full}
use Rattle.joining.specs.Recalled.{Right}
use Rattle.joining.specs.Walks.{Walked}

module _ {S : Type 0} (before : S → S → Bool) (order : Order before) where
  pub lands : (capacity : ℕ) (vs : List (Vertex S)) (t : Codes S) (ws : List (Vertex S)) (n : ℕ) → length ws ≤ capacity → Laid before vs t ws n →
      (length (lay before (lists vs) t) ≤ capacity) × (ws ≡ down before vs t) × (n ≡ down_number before vs t)
  lands capacity vs t ws n room laid =
      let is = laid_is before order vs t ws n laid in
      let l = (pictured before order ws laid.sound).long in
      let m = ap length laid.row in
      (omega arith, is.0, is.1)

  -- a walk that did not fail
  pub walked_lays : (capacity : ℕ) (vs : List (Vertex S)) (t : Codes S) (r : Result ℕ Full) (ws : List (Vertex S)) (table : Question → Option ℕ) → Walked before capacity vs t r ws table → is_err r ≡ false → length ws ≤ capacity →
      (us : List (Vertex S)) (after : Question → Option ℕ) → us ≡ ws → after ≡ table → Lays before capacity vs t r us × Right before us after
  walked_lays capacity vs t (Ok n) ws table w ok room us after e d =
      subst⁻¹ (λ (x : List (Vertex S)). Lays {F = Full} before capacity vs t (Ok n) x × Right before x after) e
      (subst⁻¹ (λ (x : Question → Option ℕ). Lays {F = Full} before capacity vs t (Ok n) ws × Right before ws x) d (lands capacity vs t ws n room w.0, w.1))
  walked_lays capacity vs t (Err e) ws table w ok room us after d b = cc
