-- What laying down and clearing out leave, and what is read back of what is written.
use Rattle.std.proofs.Common.{◌≡◌, ℕ, Bool, true, ◌⊎◌, ◌↔◌, List, ◌++◌, Some, sym, refl, ap, ◌∙◌, subst, inl, inr, arith, length-append}
use mathlib.Core.Path.{subst⁻¹}
use mathlib.Core.List.{Memᴰ}
use Rattle.symbols.specs.Order.{Order}
use Rattle.ledger.specs.Lists.{Codes, none, blank, begun, Member, Proper, Part}
use Rattle.ledger.specs.declared.Vertex.{Vertex}
use Rattle.ledger.specs.Diagrams.{look, Has, Good, Sound, Reached, itself, over_zero, over_one}
use Rattle.ledger.specs.Ledger.{listed, number, lay, lists, codes, down, down_number}
use Rattle.ledger.specs.Laid.{Laid, Placed, laying}
use Rattle.ledger.specs.Gather.{Marked, Whole, Keeps}
use Rattle.ledger.specs.Statements.{Numbered, LaidDown, ClearedOut, ClearingOut}
use Rattle.ledger.proofs.Canon.{Kind, is_0, is_1, is_vertex, kind, vertex_good}
use Rattle.ledger.proofs.Sets.{proper_same}
use Rattle.ledger.proofs.Rows.{Known, number_good, list_number, known_list, known_laid, lay_parts, lay_knows, lay_ledger}
use Rattle.ledger.proofs.Drawn.{pictured, codes_proper, has_member, member_has}
use Rattle.ledger.proofs.Parts.{known_part}
use Rattle.ledger.proofs.Gathering.{cleared}
use Rattle.ledger.proofs.Downs.{is_laid}
use Rattle.ledger.proofs.Marks.{some_marks, only_marks}
use Rattle.ledger.proofs.Draws.{lists_long, codes_front, same_lists}
use Rattle.ledger.proofs.Settling.{laying_is, laying_more, laying_self}

module _ {S : Type 0} (before : S → S → Bool) (order : Order before) where
  module _ (vs : List (Vertex S)) (sound : Sound before vs) (t : Codes S) (proper : Proper before t) where
    is : laying before vs t ≡ (down before vs t, down_number before vs t)
    is = laying_is before order vs t sound proper

    appended : (more : List (Vertex S)) × (down before vs t ≡ vs ++ more)
    appended = let r = laying_more before order vs t in (r.0, sym (ap (λ (x : Placed S). x.0) is) ∙ r.1)

    -- what a row knows has a number, and the other way round
    has_number : (ws : List (Vertex S)) (u : Codes S) → Known before (lists ws) u → Numbered ws u
    has_number ws u k = (number before (lists ws) u, omega (arith, number_good before order (lists ws) u k, lists_long before order ws), list_number before order (lists ws) u k)

    number_known : (ws : List (Vertex S)) (u : Codes S) → Numbered ws u → Known before (lists ws) u
    number_known ws u n = subst (Known before (lists ws)) n.2 (known_list before order (lists ws) n.0 (omega (arith, n.1, lists_long before order ws)))

    numbered : (u : Codes S) → Numbered (down before vs t) u ↔ (Numbered vs u ⊎ Part t u)
    numbered u = (λ n. there u (subst (λ r. Known before r u) l.row (number_known (down before vs t) u n)), back)
      where
        l : Laid before vs t (down before vs t) (down_number before vs t)
        l = is_laid before order vs t sound proper

        there : (u : Codes S) → Known before (lay before (lists vs) t) u → Numbered vs u ⊎ Part t u
        there none k = inl (0, omega arith, refl)
        there blank k = inl (1, omega arith, refl)
        there (begun a z o) k = by (lay_parts before order (lists vs) t (begun a z o) k)
          where
            by : (listed before (lists vs) (begun a z o) ≡ true) ⊎ Part t (begun a z o) → Numbered vs (begun a z o) ⊎ Part t (begun a z o)
            by (inl h) = inl (has_number vs (begun a z o) h)
            by (inr h) = inr h

        known_then : Known before (lay before (lists vs) t) u → Numbered (down before vs t) u
        known_then k = has_number (down before vs t) u (subst⁻¹ (λ r. Known before r u) l.row k)

        back : Numbered vs u ⊎ Part t u → Numbered (down before vs t) u
        back (inl n) = known_then (known_laid before order (lists vs) t u (number_known vs u n))
        back (inr p) =
            known_then
            (known_part before order (lay_ledger before order (lists vs) t (pictured before order vs sound).ledger proper) t u (lay_knows before order (lists vs) t) p)

    already : (m : ℕ) → Good vs m → ((c : List S) → Has vs m c ↔ Member t c) → (down before vs t ≡ vs) × (down_number before vs t ≡ m)
    already m g alike =
        let e : codes vs m ≡ t =
        proper_same before order (codes vs m) t (codes_proper before order vs sound m g) proper
        (λ c. (λ k. (alike c).0 (member_has before order vs sound m g c k), λ k. has_member before order vs sound ((alike c).1 k))) in
        let r : (down before vs t, down_number before vs t) ≡ (vs, m) = sym is ∙ ap (laying before vs) (sym e) ∙ laying_self before order vs sound m g in
        (ap (λ (x : Placed S). x.0) r, ap (λ (x : Placed S). x.1) r)

    pub laid_down : LaidDown before vs t (down before vs t) (down_number before vs t)
    laid_down =
        let l = is_laid before order vs t sound proper in
        record {
          sound = l.sound;
          row = l.row;
          numbered = numbered;
          appended = appended;
          old = λ m g.
              let more : Good (down before vs t) m = subst⁻¹ (λ ws. Good ws m) appended.1 (omega (arith, length-append vs appended.0)) in
              same_lists before order vs (down before vs t) sound.formed l.sound.formed m m g more (sym (codes_front before order vs appended.0 m g) ∙ ap (λ ws. codes ws m) (sym appended.1));
          good = l.good;
          codes_are = λ c. (
            λ h. subst (λ u. Member u c) l.is (has_member before order (down before vs t) l.sound h),
            λ m. member_has before order (down before vs t) l.sound (down_number before vs t) l.good c (subst⁻¹ (λ u. Member u c) l.is m),
          );
          already = already;
        }

  -- what is reached from what is reached
  pub reached_on : {vs : List (Vertex S)} {k n j : ℕ} → Reached vs k n → Reached vs n j → Reached vs k j
  reached_on {vs} {k} {n} {j} (itself v p e) q = subst⁻¹ (λ x. Reached vs x j) e q
  reached_on (over_zero v p r) q = over_zero v p (reached_on r q)
  reached_on (over_one v p r) q = over_one v p (reached_on r q)

  module _ (vs : List (Vertex S)) (sound : Sound before vs) (ks : List ℕ) (ms : List Bool) (keeps : Keeps vs ks ms) where
    marked_if : (n : ℕ) → Good vs n → ((v : Vertex S) → look vs n ≡ Some v → (k : ℕ) × Memᴰ k ks × Reached vs k n) → Marked ms n
    marked_if n g reached = by (kind vs n g)
      where
        by : Kind vs n → Marked ms n
        by (is_0 e) = subst⁻¹ (Marked ms) e tt
        by (is_1 e) = subst⁻¹ (Marked ms) e tt
        by (is_vertex v p) = (keeps.1 n v p).1 (reached v p)

    whole : Whole ms vs
    whole n v p m =
        let r = (keeps.1 n v p).0 m in
        let z = sound.formed.zero_below n v p in
        let o = sound.formed.one_below n v p in
        let g : Good vs n = vertex_good vs n v p in (
          marked_if v.zero (omega arith) (λ w q. (r.0, r.1, reached_on r.2 (over_zero v p (itself w q refl)))),
          marked_if v.one (omega arith) (λ w q. (r.0, r.1, reached_on r.2 (over_one v p (itself w q refl)))),
        )

    pub cleared_out : ClearedOut before vs ks ms
    cleared_out =
        let r = cleared before order vs sound ms keeps.0 whole in
        record {
          gatherable = record { numbered = keeps.0; below = λ n v p m. (sound.formed.zero_below n v p, sound.formed.one_below n v p); whole = whole };
          sound = r.0;
          row = r.1;
          kept = λ k m g. marked_if k g (λ v p. (k, m, itself v p refl));
          renumbered = r.2;
        }

  pub clearing_out : ClearingOut before
  clearing_out = record { leaves = cleared_out; some = some_marks before order; only = only_marks }
