-- Clearing out keeps a store standing.
use Rattle.std.proofs.Common.{◌≡◌, ℕ, zero, suc, ◌<◌, ◌≤◌, Bool, true, false, List, [], ◌∷◌, length, get_or, Some, sym, refl, ap, ◌∙◌, subst, arith}
use mathlib.Core.List.{Memᴰ}
use lib.ListN.{length-map}
use Rattle.symbols.specs.Order.{Order}
use Rattle.ledger.specs.Lists.{none}
use Rattle.ledger.specs.declared.Vertex.{Vertex}
use Rattle.ledger.specs.Diagrams.{look, Sound, Reached, itself, over_zero, over_one}
use Rattle.ledger.specs.Ledger.{lists}
use Rattle.ledger.specs.Gather.{keep, gather, renumbered, Keeps, Marked, Whole}
use Rattle.ledger.proofs.Reading.{some_same}
use Rattle.ledger.proofs.Canon.{Kind, is_0, is_1, is_vertex, kind, vertex_good}
use Rattle.ledger.proofs.Rows.{listed_get_or}
use Rattle.ledger.proofs.Drawn.{pictured}
use Rattle.ledger.proofs.Gathering.{cleared, kept_held}
use Rattle.counting.specs.Picks.{Short}
use Rattle.store.proofs.Shortness.{AllShort, short_none, short_blank, listed_short}

kept_few : {A : Type 0} (ms : List Bool) (xs : List A) → length (keep ms xs) ≤ length xs
kept_few [] xs = omega arith
kept_few (m ∷ ms) [] = omega arith
kept_few (true ∷ ms) (x ∷ xs) = let h = kept_few ms xs in omega arith
kept_few (false ∷ ms) (x ∷ xs) = let h = kept_few ms xs in omega arith

module _ {S : Type 0} (vs : List (Vertex S)) where
  reached_zero : {k n : ℕ} (v w : Vertex S) → Reached vs k n → look vs n ≡ Some v → look vs v.zero ≡ Some w → Reached vs k v.zero
  reached_zero v w (itself u p e) q r = over_zero v (p ∙ ap Some (some_same (ap (look vs) (sym e) ∙ p) q)) (itself w r refl)
  reached_zero v w (over_zero u p h) q r = over_zero u p (reached_zero v w h q r)
  reached_zero v w (over_one u p h) q r = over_one u p (reached_zero v w h q r)

  reached_one : {k n : ℕ} (v w : Vertex S) → Reached vs k n → look vs n ≡ Some v → look vs v.one ≡ Some w → Reached vs k v.one
  reached_one v w (itself u p e) q r = over_one v (p ∙ ap Some (some_same (ap (look vs) (sym e) ∙ p) q)) (itself w r refl)
  reached_one v w (over_zero u p h) q r = over_zero u p (reached_one v w h q r)
  reached_one v w (over_one u p h) q r = over_one u p (reached_one v w h q r)

module _ {S : Type 0} (before : S → S → Bool) (order : Order before) (vs : List (Vertex S)) (s : Sound before vs) (ks : List ℕ) (ms : List Bool) (keeps : Keeps vs ks ms) where
  -- what is reached from a keep-list has its links among it
  pub keeps_whole : Whole ms vs
  keeps_whole n v p m =
      let r = (keeps.1 n v p).0 m in
      let g = vertex_good vs n v p in
      let z = s.formed.zero_below n v p in
      let o = s.formed.one_below n v p in
      (zero_in r (kind vs v.zero (omega arith)), one_in r (kind vs v.one (omega arith)))
    where
      zero_in : (k : ℕ) × Memᴰ k ks × Reached vs k n → Kind vs v.zero → Marked ms v.zero
      zero_in r (is_0 e) = rw e tt
      zero_in r (is_1 e) = rw e tt
      zero_in r (is_vertex w q) = (keeps.1 v.zero w q).1 (r.0, r.1, reached_zero vs v w r.2 p q)

      one_in : (k : ℕ) × Memᴰ k ks × Reached vs k n → Kind vs v.one → Marked ms v.one
      one_in r (is_0 e) = rw e tt
      one_in r (is_1 e) = rw e tt
      one_in r (is_vertex w q) = (keeps.1 v.one w q).1 (r.0, r.1, reached_one vs v w r.2 p q)

  pub gather_sound : Sound before (gather ms vs)
  gather_sound = (cleared before order vs s ms keeps.0 keeps_whole).0

  rows : lists (gather ms vs) ≡ keep ms (lists vs)
  rows = (cleared before order vs s ms keeps.0 keeps_whole).1

  pub gather_short : AllShort vs → AllShort (gather ms vs)
  gather_short old zero good = short_none
  gather_short old (suc zero) good = short_blank
  gather_short old (suc (suc k)) good =
      let u = get_or (keep ms (lists vs)) k none in
      let long = (pictured before order (gather ms vs) gather_sound).long in
      let below : k < length (keep ms (lists vs)) = omega (arith, long, ap length rows) in
      subst Short (ap (λ r. get_or r k none) (sym rows))
      (listed_short before order vs s old u (kept_held before order ms (lists vs) u (listed_get_or before order (keep ms (lists vs)) k none below)))

  pub gather_few : length (gather ms vs) ≤ length vs
  gather_few = let h = kept_few ms vs in omega (arith, length-map (keep ms vs) (renumbered ms))
