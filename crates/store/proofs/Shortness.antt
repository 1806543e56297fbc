-- Codes stay within 64 symbols: what is laid down brings no longer code than it has.
use Rattle.std.proofs.Common.{◌≡◌, ℕ, zero, suc, ◌<◌, ◌≤◌, Bool, true, ◌⊎◌, List, ◌∷◌, length, get_or, sym, refl, ap, subst, inl, inr, arith}
use Rattle.symbols.specs.Order.{Order}
use Rattle.ledger.specs.Lists.{Codes, none, blank, begun, Member, Proper, Part}
use Rattle.ledger.specs.declared.Vertex.{Vertex}
use Rattle.ledger.specs.Diagrams.{Good, Sound}
use Rattle.ledger.specs.Ledger.{listed, number, lay, lists, codes, down}
use Rattle.counting.specs.Picks.{Short}
use Rattle.ledger.proofs.Rows.{listed_get_or, known_held, number_good, list_number, lay_ledger}
use Rattle.ledger.proofs.Drawn.{Pictured, pictured, lists_vertices_of}
use Rattle.ledger.proofs.Rows.{lay_parts}
use Rattle.ledger.proofs.Downs.{down_sound}

-- every code of a good number has at most 64 symbols
abbrev pub AllShort : {S : Type 0} → List (Vertex S) → Type 0
AllShort vs = (n : ℕ) → Good vs n → Short (codes vs n)

pub short_none : {S : Type 0} → Short {S = S} none
short_none c m = absurd m

pub short_blank : {S : Type 0} → Short {S = S} blank
short_blank c m = rw m (omega arith)

part_short : {S : Type 0} (t u : Codes S) → Part t u → Short t → Short u
part_short none u e s = subst Short e s
part_short blank u e s = subst Short e s
part_short (begun a z o) u (inl e) s = subst Short e s
part_short (begun a z o) u (inr (inl p)) s = part_short z u p (λ c m. s c (inl m))
part_short {S} (begun a z o) u (inr (inr p)) s = part_short o u p inner
  where
    inner : (c : List S) → Member o c → length c ≤ 64
    inner c m = let h : length (a ∷ c) ≤ 64 = s (a ∷ c) (inr (c, refl, m)) in omega arith

module _ {S : Type 0} (before : S → S → Bool) (order : Order before) where
  pub listed_short : (vs : List (Vertex S)) → Sound before vs → AllShort vs → (u : Codes S) → listed before (lists vs) u ≡ true → Short u
  listed_short vs sound old u h =
      let known = known_held before order (lists vs) u h in
      let good = number_good before order (lists vs) u known in
      subst Short (list_number before order (lists vs) u known) (old (number before (lists vs) u) (omega (arith, (pictured before order vs sound).long)))

  pub down_short : (vs : List (Vertex S)) (t : Codes S) → Sound before vs → Proper before t → AllShort vs → Short t → AllShort (down before vs t)
  down_short vs t sound proper old new = at
    where
      P : Pictured before order vs
      P = pictured before order vs sound

      rows : lists (down before vs t) ≡ lay before (lists vs) t
      rows = lists_vertices_of before order (lay_ledger before order (lists vs) t P.ledger proper)

      long : length (lists (down before vs t)) ≡ length (down before vs t)
      long = (pictured before order (down before vs t) (down_sound before order vs t sound proper)).long

      in_row : (u : Codes S) → (listed before (lists vs) u ≡ true) ⊎ Part t u → Short u
      in_row u (inl h) = listed_short vs sound old u h
      in_row u (inr p) = part_short t u p new

      at : (n : ℕ) → Good (down before vs t) n → Short (codes (down before vs t) n)
      at zero good = short_none
      at (suc zero) good = short_blank
      at (suc (suc k)) good =
          let u = get_or (lay before (lists vs) t) k none in
          let below : k < length (lay before (lists vs) t) = omega (arith, long, ap length rows) in
          subst Short (ap (λ r. get_or r k none) (sym rows))
          (in_row u (lay_parts before order (lists vs) t u (listed_get_or before order (lay before (lists vs) t) k none below)))
