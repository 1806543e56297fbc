-- The steps down a code's path, and the frames that they leave.
use Rattle.std.proofs.Common.{◌≡◌, ℕ, ◌+◌, ◌<◌, ◌≤◌, Bool, true, false, cond, ◌⊎◌, List, [], ◌∷◌, length, get_or, drop, Some, None, sym, refl, ap, ◌∙◌, inl, inr, arith}
use mathlib.Core.Path.{subst⁻¹}
use Rattle.std.proofs.lemmas.List.{drop_more, drop_all}
use Rattle.std.proofs.lemmas.Option.{slice_get_read}
use Rattle.std.specs.Option.{option_map}
use Rattle.symbols.specs.Order.{Order, same_symbol}
use Rattle.ledger.specs.declared.Vertex.{Vertex}
use Rattle.ledger.specs.Lists.{Codes, none, begun, Proper}
use Rattle.ledger.specs.Diagrams.{look, parts, Good, Formed, Sound}
use Rattle.ledger.specs.Ledger.{codes}
use Rattle.ledger.specs.Operations.{has, make}
use Rattle.memory.specs.Shelves.{vertex, LinksBelow}
use Rattle.memory.specs.declared.work.Place.{Place}
use Rattle.paths.specs.declared.changing.Change.{Change}
use Rattle.paths.specs.declared.frames.Frame.{Frame}
use Rattle.paths.specs.declared.frames.Frame.TheVariants.{Zero, One}
use Rattle.paths.specs.Changed.{changed, end_number}
use Rattle.paths.specs.Framed.{frame_in}
use Rattle.paths.specs.Waiting.{Makes, Waits, Step, Stepped}
use Rattle.paths.proofs.Seeing.{Seen, seen, unseen}
use Rattle.paths.proofs.Leading.{differs, has_early, empty_end}
use Rattle.paths.proofs.Along.{make_some, changed_past_end, changed_end_none, changed_end_blank, changed_past, changed_ahead, changed_in, changed_none, changed_blank}

rest : {S : Type 0} (code : List S) (i : ℕ) (x : S) → i < length code → x ≡ get_or code i x → drop i code ≡ x ∷ drop (i + 1) code
rest code i x h e = drop_more code i x h ∙ ap (λ y. y ∷ drop (i + 1) code) (sym e)

module _ {S : Type 0} (before : S → S → Bool) (order : Order before) (vs : List (Vertex S)) (code : List S) (at spot : ℕ) where
  -- a new vertex, in front of what is there
  new_vertex : (x : S) → spot < length code → x ≡ get_or code spot x →
      (Sound before vs → Good vs at → has before (codes vs at) (x ∷ drop (spot + 1) code) ≡ false) →
      (Sound before vs → Good vs at → (change : Change) → changed before change (codes vs at) (x ∷ drop (spot + 1) code) ≡ make x (codes vs at) (changed before change none (drop (spot + 1) code))) →
      Step before vs code at spot (One at spot) 0 (spot + 1)
  new_vertex x h e absent w =
      record {
        inside = omega arith;
        falls = omega arith;
        less = omega arith;
        good = λ s g. omega arith;
        member = λ s g. sym (absent s g) ∙ ap (has before (codes vs at)) (sym (rest code spot x h e));
        makes = λ s g change. (x, slice_get_read code (length code) spot x refl h e, g, ap (changed before change (codes vs at)) (rest code spot x h e) ∙ w s g change);
      }

  module _ (nothing : Formed before vs → None ≡ option_map parts (look vs at)) where
    pub step_end : length code ≤ spot → Stepped before vs code at spot None
    step_end h s g = (
      λ change. by change (unseen before order vs s at (nothing s.formed) g) ∙ ap (changed before change (codes vs at)) (sym (drop_all spot code h)),
      empty_end before order vs s at (nothing s.formed) g ∙ ap (has before (codes vs at)) (sym (drop_all spot code h)),
    )
      where
        by : (change : Change) → (at ≡ 0) ⊎ (at ≡ 1) → codes vs (end_number change) ≡ changed before change (codes vs at) []
        by change (inl p) = sym (ap (λ n. changed before change (codes vs n) []) p ∙ changed_end_none before change vs)
        by change (inr p) = sym (ap (λ n. changed before change (codes vs n) []) p ∙ changed_end_blank before change vs)

    pub step_new_end : (x : S) → spot < length code → x ≡ get_or code spot x → Step before vs code at spot (One at spot) 0 (spot + 1)
    step_new_end x h e = new_vertex x h e (λ s g. none_there (unseen before order vs s at (nothing s.formed) g)) (λ s g change. by change (unseen before order vs s at (nothing s.formed) g))
      where
        none_there : (at ≡ 0) ⊎ (at ≡ 1) → has before (codes vs at) (x ∷ drop (spot + 1) code) ≡ false
        none_there (inl p) = rw p refl
        none_there (inr p) = rw p refl

        by : (change : Change) → (at ≡ 0) ⊎ (at ≡ 1) →
            changed before change (codes vs at) (x ∷ drop (spot + 1) code) ≡ make x (codes vs at) (changed before change none (drop (spot + 1) code))
        by change (inl p) = rw p (changed_none before change x (drop (spot + 1) code))
        by change (inr p) = rw p (changed_blank before change x (drop (spot + 1) code))

  module _ (l : S) (z o : ℕ) (below : LinksBelow at (Some (l, z, o))) (there : Formed before vs → Some (l, z, o) ≡ option_map parts (look vs at)) where
    see : Sound before vs → Seen before vs at l z o
    see s = seen before order vs s at l z o (there s.formed)

    -- over the zero link
    past_vertex : spot ≤ length code → has before (begun l (codes vs z) (codes vs o)) (drop spot code) ≡ has before (codes vs z) (drop spot code) →
        ((change : Change) → changed before change (begun l (codes vs z) (codes vs o)) (drop spot code) ≡ make l (changed before change (codes vs z) (drop spot code)) (codes vs o)) →
        Step before vs code at spot (Zero at) z spot
    past_vertex h m w =
        record {
          inside = h;
          falls = omega (arith, below.1);
          less = omega (arith, below.1);
          good = λ s g. (see s).zero_good;
          member = λ s g. sym (ap (λ t. has before t (drop spot code)) (see s).is ∙ m);
          makes = λ s g change.
              let k = see s in
              (vertex l z o, k.at, ap (λ t. changed before change t (drop spot code)) k.is ∙ w change ∙ make_some l (changed before change (codes vs z) (drop spot code)) (codes vs o) k.proper.1);
        }

    pub step_zero_end : spot ≤ length code → length code ≤ spot → Step before vs code at spot (Zero at) z spot
    step_zero_end h e = past_vertex h (rw (drop_all spot code e) refl) (λ change. rw (drop_all spot code e) (changed_past_end before change l (codes vs z) (codes vs o)))

    module _ (x : S) (h : spot < length code) (e : x ≡ get_or code spot x) where
      pub step_zero : before l x ≡ true → Step before vs code at spot (Zero at) z spot
      step_zero b =
          past_vertex (omega arith) (rw (rest code spot x h e) (ap (λ q. cond q (has before (codes vs o) (drop (spot + 1) code)) (has before (codes vs z) (x ∷ drop (spot + 1) code))) (differs before order l x b)))
          (λ change. rw (rest code spot x h e) (changed_past before change l (codes vs z) (codes vs o) x (drop (spot + 1) code) b))

      -- of two symbols one at most comes before the other
      not_back : before x l ≡ true → before l x ≡ false
      not_back c = by (before l x) refl
        where
          by : (b : Bool) → before l x ≡ b → b ≡ false
          by false e = refl
          by true e = let t = order.transitive l x l e c in let i = order.irreflexive l in cc

      pub step_new : before x l ≡ true → Step before vs code at spot (One at spot) 0 (spot + 1)
      step_new c =
          new_vertex x h e (λ s g. ap (λ t. has before t (x ∷ drop (spot + 1) code)) (see s).is ∙ has_early before order (begun l (codes vs z) (codes vs o)) x (drop (spot + 1) code) (see s).proper c)
          (λ s g change. rw (see s).is (changed_ahead before change l (codes vs z) (codes vs o) x (drop (spot + 1) code) (not_back c) c))

      pub step_one : before l x ≡ false → before x l ≡ false → Step before vs code at spot (One z spot) o (spot + 1)
      step_one b c =
          record {
            inside = omega arith;
            falls = omega (arith, below.2);
            less = omega (arith, below.2);
            good = λ s g. (see s).one_good;
            member = λ s g.
                let same : same_symbol before l x ≡ true = rw (b, c) refl in
                sym (ap (λ t. has before t (drop spot code)) (see s).is ∙ ap (has before (begun l (codes vs z) (codes vs o))) (rest code spot x h e) ∙
                ap (λ q. cond q (has before (codes vs o) (drop (spot + 1) code)) (has before (codes vs z) (x ∷ drop (spot + 1) code))) same);
            makes = λ s g change.
                let k = see s in
                let same : l ≡ x = order.connected l x b c in (
                  x,
                  slice_get_read code (length code) spot x refl h e,
                  k.zero_good,
                  ap (λ t. changed before change t (drop spot code)) k.is ∙ ap (changed before change (begun l (codes vs z) (codes vs o))) (rest code spot x h e) ∙
                      changed_in before change l (codes vs z) (codes vs o) x (drop (spot + 1) code) b c ∙ ap (λ y. make y (codes vs z) (changed before change (codes vs o) (drop (spot + 1) code))) same,
                );
          }

-- a frame more
pub waits_push : {S : Type 0} (before : S → S → Bool) (vs : List (Vertex S)) (code : List S) (p : Place) (ps qs : List Place) (frame : Frame) (t u whole : Codes S) →
    qs ≡ p ∷ ps → frame_in p ≡ frame → Makes vs code frame t u → Proper before u → Waits before vs code ps u whole → Waits before vs code qs t whole
waits_push before vs code p ps qs frame t u whole q e m proper w =
    subst⁻¹ (λ (x : List Place). Waits before vs code x t whole) q (u, subst⁻¹ (λ f. Makes vs code f t u) e m, proper, w)
