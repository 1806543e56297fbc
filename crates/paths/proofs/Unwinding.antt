-- The way back up the frames.
use Rattle.std.proofs.Common.{◌≡◌, ℕ, ◌<◌, ◌≤◌, Bool, true, false, ◌⊎◌, List, [], ◌∷◌, length, Ok, Err, Result, is_err, ap, ◌∙◌, subst, inl, inr, arith, length-append}
use mathlib.Core.Path.{subst⁻¹}
use Rattle.symbols.specs.Order.{Order}
use Rattle.ledger.specs.declared.Vertex.{Vertex}
use Rattle.ledger.specs.Lists.{Codes, none, blank, begun, Proper}
use Rattle.ledger.specs.Diagrams.{Good, Sound}
use Rattle.ledger.specs.Laid.{Laid}
use Rattle.ledger.specs.Ledger.{listed, lay, lists, codes, Lays}
use Rattle.ledger.specs.Operations.{has, make}
use Rattle.ledger.proofs.Rows.{both_ways, Ledger, known_list, lay_known, lay_adds}
use Rattle.ledger.proofs.Drawn.{pictured, codes_proper}
use Rattle.ledger.proofs.Laying.{lay_found, lay_append, laid_known}
use Rattle.ledger.proofs.Downs.{laid_is}
use Rattle.memory.specs.declared.shelf.Full.{Full}
use Rattle.memory.specs.declared.work.Place.{Place}
use Rattle.paths.specs.declared.changing.Change.{Change}
use Rattle.paths.specs.declared.changing.Change.TheVariants.{Add, Remove}
use Rattle.paths.specs.declared.frames.Frame.{Frame}
use Rattle.paths.specs.declared.frames.Frame.TheVariants.{Zero, One}
use Rattle.paths.specs.Changed.{changed, as_it_is, end_number}
use Rattle.paths.specs.Framed.{frame_in}
use Rattle.paths.specs.Waiting.{Makes, Waits, Begins, Settled, Unwound}
use Rattle.paths.proofs.Along.{unchanged}

module _ {S : Type 0} (before : S → S → Bool) (order : Order before) where
  -- laying a list down appends what laying its outer list down appends, and then what its inner list does
  begun_longer : {row : List (Codes S)} → Ledger before row → (a : S) (z o : Codes S) →
      (length (lay before row z) ≤ length (lay before row (begun a z o))) × (length (lay before (lay before row z) o) ≤ length (lay before row (begun a z o)))
  begun_longer {row} L a z o = by (both_ways (listed before (lay before (lay before row z) o) (begun a z o)))
    where
      inner : length (lay before row z) ≤ length (lay before (lay before row z) o)
      inner = let r = lay_adds before order (lay before row z) o in let l = ap length r.1 ∙ length-append (lay before row z) r.0 in omega arith

      by : (listed before (lay before (lay before row z) o) (begun a z o) ≡ true) ⊎ (listed before (lay before (lay before row z) o) (begun a z o) ≡ false) →
          (length (lay before row z) ≤ length (lay before row (begun a z o))) × (length (lay before (lay before row z) o) ≤ length (lay before row (begun a z o)))
      by (inl h) = let l = ap length (lay_found before order L a z o h) in (omega (arith, inner), omega arith)
      by (inr h) = let l = ap length (lay_append before order L a z o h) ∙ length-append (lay before (lay before row z) o) (begun a z o ∷ []) in (omega (arith, inner), omega arith)

  makes_longer : (vs : List (Vertex S)) → Sound before vs → (code : List S) (frame : Frame) (t u : Codes S) → Makes vs code frame t u → length (lay before (lists vs) t) ≤ length (lay before (lists vs) u)
  makes_longer vs s code (Zero n) t u m =
      let l = (begun_longer (pictured before order vs s).ledger m.0.label t (codes vs m.0.one)).0 in
      subst⁻¹ (λ x. length (lay before (lists vs) t) ≤ length (lay before (lists vs) x)) m.2 l
  makes_longer vs s code (One n spot) t u m = subst⁻¹ (λ x. length (lay before (lists vs) t) ≤ length (lay before (lists vs) x)) m.3 (by t)
    where
      there : lay before (lists vs) (codes vs n) ≡ lists vs
      there = let P = pictured before order vs s in lay_known before order (lists vs) (codes vs n) (known_list before order (lists vs) n (omega (arith, P.long, m.2)))

      around : (o : Codes S) → length (lay before (lists vs) o) ≤ length (lay before (lists vs) (begun m.0 (codes vs n) o))
      around o = subst (λ r. length (lay before r o) ≤ length (lay before (lists vs) (begun m.0 (codes vs n) o))) there (begun_longer (pictured before order vs s).ledger m.0 (codes vs n) o).1

      by : (o : Codes S) → length (lay before (lists vs) o) ≤ length (lay before (lists vs) (make m.0 (codes vs n) o))
      by none = let l = ap length there in omega arith
      by blank = around blank
      by (begun b y p) = around (begun b y p)

  pub waits_longer : (vs : List (Vertex S)) → Sound before vs → (code : List S) (ps : List Place) (t whole : Codes S) → Waits before vs code ps t whole →
      length (lay before (lists vs) t) ≤ length (lay before (lists vs) whole)
  waits_longer vs s code [] t whole w = let l = ap (λ x. length (lay before (lists vs) x)) w in omega arith
  waits_longer vs s code (p ∷ ps) t whole w =
      let one = makes_longer vs s code (frame_in p) t w.0 w.1 in
      let all = waits_longer vs s code ps w.0 whole w.3 in
      omega arith

  pub lays_ok : (vs : List (Vertex S)) (t : Codes S) (ws : List (Vertex S)) (n capacity : ℕ) → Laid before vs t ws n → length ws ≤ capacity → Lays {F = Full} before capacity vs t (Ok n) ws
  lays_ok vs t ws n capacity l h =
      let P = pictured before order ws l.sound in
      let row = ap length l.row in
      let r = laid_is before order vs t ws n l in
      (omega (arith, P.long), r.0, r.1)

  -- where a frame's list does not fit, nor does the whole
  pub unwound_short : (vs : List (Vertex S)) → Sound before vs → (code : List S) (p : Place) (ps qs : List Place) → qs ≡ p ∷ ps → (t whole : Codes S) → Waits before vs code qs t whole →
      (capacity : ℕ) (ws : List (Vertex S)) → ((u : Codes S) → Makes vs code (frame_in p) t u → Proper before u → (capacity < length (lay before (lists vs) u)) × Begins vs ws) →
      (capacity < length (lay before (lists vs) whole)) × Begins vs ws
  unwound_short vs s code p ps qs q t whole w capacity ws short =
      let k = subst (λ (x : List Place). Waits before vs code x t whole) q w in
      let h = short k.0 k.1 k.2 in
      let l = waits_longer vs s code ps k.0 whole k.3 in
      (omega (arith, h.0), h.1)

  -- where all fits, the whole is laid down
  all_fits : (vs : List (Vertex S)) (whole : Codes S) (capacity : ℕ) (r : Result ℕ Full) (ws : List (Vertex S)) → is_err r ≡ false → length ws ≤ capacity → Settled before capacity vs whole r ws →
      Lays before capacity vs whole r ws
  all_fits vs whole capacity (Ok n) ws ok h s = lays_ok vs whole ws n capacity s.0 h
  all_fits vs whole capacity (Err e) ws ok h s = cc

  end_good : (change : Change) (vs : List (Vertex S)) → Good vs (end_number change)
  end_good Add vs = omega arith
  end_good Remove vs = omega arith

  pub unwound_lays : (vs : List (Vertex S)) → Sound before vs → (change : Change) (end : ℕ) → end ≡ end_number change → (code : List S) (ps : List Place) (whole : Codes S) →
      Waits before vs code ps (codes vs (end_number change)) whole → (capacity : ℕ) (r : Result ℕ Full) (ws : List (Vertex S)) → is_err r ≡ false → length ws ≤ capacity →
      Unwound before capacity code ps vs end r ws → Lays before capacity vs whole r ws
  unwound_lays vs sound change end e code ps whole waits capacity r ws ok h u =
      all_fits vs whole capacity r ws ok h
      (u whole sound (subst⁻¹ (Good vs) e (end_good change vs)) (subst⁻¹ (λ (n : ℕ). Waits before vs code ps (codes vs n) whole) e waits))

  -- a code that is in already, or not in
  pub lays_as_it_is : (vs : List (Vertex S)) → Sound before vs → (n : ℕ) → Good vs n → (change : Change) (c : List S) (held : Bool) → held ≡ has before (codes vs n) c → as_it_is change held ≡ true →
      (capacity : ℕ) → length vs ≤ capacity → Lays {F = Full} before capacity vs (changed before change (codes vs n) c) (Ok n) vs
  lays_as_it_is vs s n g change c held e settled capacity h =
      subst⁻¹ (λ t. Lays {F = Full} before capacity vs t (Ok n) vs)
      (unchanged before order change (codes vs n) c (codes_proper before order vs s n g) (subst (λ b. as_it_is change b ≡ true) e settled))
      (lays_ok vs (codes vs n) vs n capacity (laid_known before order vs s n g) h)
