-- One turn of a pick: the tallies tell where the code with k before it goes on.
use Rattle.std.proofs.Common.{◌≡◌, ℕ, ◌+◌, ◌-◌, ◌<◌, ◌≤◌, Bool, ◌⊎◌, List, [], ◌∷◌, ◌++◌, length, get_or, take, drop, set, Some, None, Option, sym, refl, ap, ◌∙◌, subst, inl, inr, append_assoc, append-nil, arith, length-append, take-append-drop}
use mathlib.Core.Path.{subst⁻¹}
use mir.Val.{bool_byte}
use Rattle.std.proofs.lemmas.List.{take_more_set, drop-drop, length-take-le}
use Rattle.std.specs.List.{slice_get}
use Rattle.std.specs.Option.{option_map}
use Rattle.symbols.specs.Order.{Order}
use Rattle.ledger.specs.declared.Vertex.{Vertex}
use Rattle.ledger.specs.Lists.{Codes, begun}
use Rattle.ledger.specs.Diagrams.{look, parts, Formed}
use Rattle.ledger.specs.Ledger.{codes}
use Rattle.ledger.specs.Ordered.{ordered, blank_in}
use Rattle.ledger.proofs.Orders.{ordered_member}
use Rattle.memory.specs.declared.work.Place.{Place}
use Rattle.memory.proofs.Looks.{looked}
use Rattle.counting.specs.declared.picking.Course.{Course}
use Rattle.counting.specs.declared.picking.Spot.{Spot}
use Rattle.counting.specs.declared.picking.Turn.TheVariants.{Passes, Takes}
use Rattle.counting.specs.declared.tallying.Tally.{Tally}
use Rattle.counting.specs.Tallies.{Counted, Tallied, held, vacant}
use Rattle.counting.specs.Picks.{Short, Writes}
use Rattle.counting.specs.Courses.{Stands, Leads, code_at, whole}
use Rattle.counting.proofs.Sizes.{read_codes}
use Rattle.counting.proofs.Nths.{nth_in, turn_inner, turn_outer, outer_stands}

module _ {S : Type 0} (before : S → S → Bool) (order : Order before) (vs : List (Vertex S)) (formed : Formed before vs) (spot : Spot) (stands : Stands vs spot) where
  module _ (work : List Place) (tallied : Tallied vs (spot.list + 1) work) (here : Tally) (here_is : here ≡ held (get_or work spot.list vacant)) (empty : ℕ) (empty_is : empty ≡ bool_byte here.empty) where
    empties : empty ≡ bool_byte (blank_in (codes vs spot.list))
    empties = empty_is ∙ ap bool_byte (ap (λ (r : Tally). r.empty) here_is ∙ (tallied spot.list (omega arith)).blank)

    module _ (t : S × ℕ × ℕ) (read : Some t ≡ option_map parts (look vs spot.list)) (later : ℕ) (at_k : spot.before ≡ empty + later) where
      begins : codes vs spot.list ≡ begun t.0 (codes vs t.1) (codes vs t.2)
      begins = read_codes before order vs formed spot.list t read

      past : spot.before ≡ bool_byte (blank_in (codes vs spot.list)) + later
      past = at_k ∙ ap (λ m. m + later) empties

      links_low : (t.1 < spot.list) × (t.2 < spot.list)
      links_low =
          let l = looked vs spot.list t read in
          let z : t.1 ≡ l.0.zero = ap (λ (x : S × ℕ × ℕ). x.1) l.2 in
          let o : t.2 ≡ l.0.one = ap (λ (x : S × ℕ × ℕ). x.2) l.2 in
          let zero_low = formed.zero_below spot.list l.0 l.1 in
          let one_low = formed.one_below spot.list l.0 l.1 in
          (omega arith, omega arith)

      -- the one link's codes were counted, and there are more of them than are left to pass by, or not
      module _ (inner : Tally) (inner_is : inner ≡ held (get_or work t.2 vacant)) where
        counted : Counted (length (ordered (codes vs t.2))) inner.codes
        counted =
            let low = links_low.1 in
            subst⁻¹ (λ (r : Tally). Counted (length (ordered (codes vs t.2))) r.codes) inner_is (tallied t.2 (omega arith)).many

        pub turn_takes : ((n : ℕ) → Counted n inner.codes → later < n) → Leads vs spot (Takes t.0 (record { list = t.2; before = later }))
        turn_takes fewer =
            let low = links_low.1 in
            let good = stands.0 in
            let h = fewer (length (ordered (codes vs t.2))) counted in
            ((omega arith, h), turn_inner (codes vs spot.list) t.0 (codes vs t.1) (codes vs t.2) begins spot.before later past h)

        pub turn_passes : (left : ℕ) → ((n : ℕ) → Counted n inner.codes → later ≡ n + left) → Leads vs spot (Passes (record { list = t.1; before = empty + left }))
        turn_passes left more =
            let low = links_low.0 in
            let good = stands.0 in
            let from = more (length (ordered (codes vs t.2))) counted in
            let same : bool_byte (blank_in (codes vs spot.list)) + left ≡ empty + left = ap (λ m. m + left) (sym empties) in (
              (omega arith, subst (λ m. m < length (ordered (codes vs t.1))) same (outer_stands (codes vs spot.list) t.0 (codes vs t.1) (codes vs t.2) begins spot.before later past left from stands.1)),
              turn_outer (codes vs spot.list) t.0 (codes vs t.1) (codes vs t.2) begins spot.before later past left from ∙ ap (slice_get (ordered (codes vs t.1))) same,
            )

drop_on : {A : Type 0} (m n : ℕ) (xs ys : List A) → m ≤ n → drop m xs ≡ drop m ys → drop n xs ≡ drop n ys
drop_on m n xs ys h e =
    let s : m + (n - m) ≡ n = omega arith in
    subst (λ j. drop j xs ≡ drop j ys) s (sym (drop-drop (n - m) m xs) ∙ ap (drop (n - m)) e ∙ drop-drop (n - m) m ys)

-- what is not written yet is as it was
pub drop_then : {A : Type 0} (m n : ℕ) (first then last : List A) → m ≤ n → drop m then ≡ drop m first → drop n last ≡ drop n then → drop n last ≡ drop n first
drop_then m n first then last h p q = q ∙ drop_on m n then first h p

-- a label that is taken and written leaves the whole code as it is
pub whole_takes : {S : Type 0} (vs : List (Vertex S)) (course : Course) (out after : List S) (a : S) (inner : Spot) → course.length < length out → after ≡ set out course.length a →
    code_at vs course.rest ≡ option_map (λ c. a ∷ c) (code_at vs inner) →
    whole vs (record { rest = inner; length = course.length + 1 }) after ≡ whole vs course out
whole_takes {S} vs course out after a inner inside put e =
    ap (λ w. option_map (λ c. take (course.length + 1) w ++ c) (code_at vs inner)) put ∙
    by (code_at vs inner) ∙
    ap (option_map (λ c. take course.length out ++ c)) (sym e)
  where
    by : (o : Option (List S)) → option_map (λ c. take (course.length + 1) (set out course.length a) ++ c) o ≡ option_map (λ c. take course.length out ++ c) (option_map (λ c. a ∷ c) o)
    by None = refl
    by (Some c) = ap Some (ap (λ w. w ++ c) (take_more_set out course.length a inside) ∙ append_assoc (take course.length out) (a ∷ []) c)

-- where the walk ends, the code is written
pub whole_writes : {S : Type 0} (before : S → S → Bool) (order : Order before) (vs : List (Vertex S)) (course : Course) (t : Codes S) (k : ℕ) (entry out : List S) →
    64 ≤ length out → course.length ≤ 64 → drop course.length out ≡ drop course.length entry → Short t →
    whole vs course out ≡ slice_get (ordered t) k →
    (c : List S) → code_at vs course.rest ≡ Some c → (c ≡ []) ⊎ (64 < course.length + length c) →
    Writes (ordered t) k entry course.length out
whole_writes {S} before order vs course t k entry out wide small kept short is c ends why = by why
  where
    at_k : slice_get (ordered t) k ≡ Some (take course.length out ++ c)
    at_k = sym is ∙ ap (option_map (λ d. take course.length out ++ d)) ends

    by : (c ≡ []) ⊎ (64 < course.length + length c) → Writes (ordered t) k entry course.length out
    by (inl e) =
        record {
          code = take course.length out;
          at_k = at_k ∙ ap (λ d. Some (take course.length out ++ d)) e ∙ ap Some (append-nil (take course.length out));
          long = sym (length-take-le course.length out (omega arith));
          written = sym (take-append-drop course.length out) ∙ ap (λ d. take course.length out ++ d) kept;
        }
    by (inr long) =
        let few = short (take course.length out ++ c) (ordered_member before order t (take course.length out ++ c) (nth_in (ordered t) k (take course.length out ++ c) at_k)) in
        let l = length-append (take course.length out) c in
        let m = length-take-le course.length out (omega arith) in
        absurd (omega arith)
