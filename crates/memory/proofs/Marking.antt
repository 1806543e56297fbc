-- Marks in places: reading one, counting them, and the numbers that the places get.
use Rattle.std.proofs.Common.{◌≡◌, ℕ, zero, suc, ◌+◌, ◌-◌, ◌<◌, ◌≤◌, Bool, true, false, not, eqb, ◌⊎◌, ◌↔◌, List, [], ◌∷◌, Some, None, Option, length, get_or, set, sym, refl, ap, ◌∙◌, inl, inr, add-one, arith}
use mir.Val.{bool_byte}
use denote.Ref.{Bor}
use Rattle.std.specs.List.{HoldsAt}
use Rattle.std.specs.Option.{IfSome, MatchOption}
use Rattle.std.proofs.lemmas.List.{get_or-map, get_or_past, length-map, map-set, set-get_or, get_or-set_same, get_or-set_other}
use Rattle.std.proofs.lemmas.Bool.{both_ways, cases_eq}
use Rattle.ledger.specs.Gather.{marked_before, renumber, Marked}
use Rattle.memory.specs.declared.work.Place.{Place}
use Rattle.memory.specs.Marks.{number_at, noted}
use Rattle.memory.specs.Shelves.{is_mark, marks_in, Renumbered}

-- what a place says of its vertex
mark_read : (ps : List Place) (k : ℕ) (p : Place) → k < length ps → p ≡ get_or ps k p → get_or (marks_in ps) k false ≡ is_mark p
mark_read ps k p h e = get_or-map is_mark ps k p false h ∙ ap is_mark (sym e)

pub marked_at : (ps : List Place) (n : ℕ) (p : Place) → 2 ≤ n → n - 2 < length ps → p ≡ get_or ps (n - 2) p → (is_mark p ≡ true) ↔ Marked (marks_in ps) n
marked_at ps zero p l h e = absurd (omega arith)
marked_at ps (suc zero) p l h e = absurd (omega arith)
marked_at ps (suc (suc k)) p l h e =
    let back : suc (suc k) - 2 ≡ k = omega arith in
    let r = mark_read ps k p (rw back at h) (rw back at e) in
    (λ m. r ∙ m, λ m. sym r ∙ m)

pub unmarked_past : (ps : List Place) (n : ℕ) → 2 ≤ n → length ps ≤ n - 2 → Marked (marks_in ps) n → ⊥
unmarked_past ps zero l h m = absurd (omega arith)
unmarked_past ps (suc zero) l h m = absurd (omega arith)
unmarked_past ps (suc (suc k)) l h m =
    both_ways _ (get_or_past (marks_in ps) k false (omega (arith, length-map ps is_mark))) m

-- a place that is looked up tells whether its vertex is marked
pub marked_if : (ps : List Place) (n : ℕ) (r : Option (Bor Place)) (b : Bool) {P : Bor Place → Type 0} → 2 ≤ n → IfSome r (λ p. p.now ≡ get_or ps (n - 2) p.now) →
    MatchOption r (length ps ≤ n - 2) (λ p. (n - 2 < length ps) × HoldsAt (λ q. p.now ≡ q) ps (n - 2)) →
    MatchOption r (b ≡ false) P → ((p : Bor Place) → P p → b ≡ is_mark p.now) → (b ≡ true) ↔ Marked (marks_in ps) n
marked_if ps n None b l e h q f = (λ m. absurd (both_ways _ q m), λ m. absurd (unmarked_past ps n l h m))
marked_if ps n (Some p) b l e h q f = let m = marked_at ps n p.now l h.0 e in (λ t. m.0 (sym (f p q) ∙ t), λ t. f p q ∙ m.1 t)

-- a mark counts for at most one
mark_few : (n : ℕ) (b : Bool) → n ≡ bool_byte b → n ≤ 1
mark_few n true e = omega arith
mark_few n false e = omega arith

-- one mark more
before_more : (ms : List Bool) (i : ℕ) → marked_before ms (i + 1) ≡ marked_before ms i + bool_byte (get_or ms i false)
before_more ms i = rw add-one (by ms i)
  where
    by : (ms : List Bool) (i : ℕ) → marked_before ms (suc i) ≡ marked_before ms i + bool_byte (get_or ms i false)
    by [] i = refl
    by (true ∷ []) zero = refl
    by (true ∷ m ∷ ms) zero = refl
    by (false ∷ []) zero = refl
    by (false ∷ m ∷ ms) zero = refl
    by (true ∷ ms) (suc i) = let p = by ms i in omega arith
    by (false ∷ ms) (suc i) = by ms i

before_none : (ms : List Bool) → marked_before ms 0 ≡ 0
before_none [] = refl
before_none (m ∷ ms) = refl

-- qs began as ps; the first i places have their numbers, and the marks are what they were
pub record Numbering (ps qs : List Place) (count i : ℕ) : Type 0 where
  pub few : count ≤ i
  pub counted : count ≡ marked_before (marks_in ps) i
  pub same : marks_in qs ≡ marks_in ps
  pub numbers : (k : ℕ) (d : Place) → k < i → (get_or qs k d).number ≡ renumber (marks_in ps) (suc (suc k))

pub numbering_none : (ps : List Place) → Numbering ps ps 0 0
numbering_none ps = record { few = omega arith; counted = sym (before_none (marks_in ps)); same = refl; numbers = λ k d h. absurd (omega arith) }

pub numbering_more : (ps qs : List Place) (count i : ℕ) (p d : Place) → i < length qs → p.state ≡ (get_or qs i d).state → p.number ≡ count + 2 → Numbering ps qs count i →
    Numbering ps (set qs i p) (count + bool_byte (not (eqb (get_or qs i d).state 0))) (i + 1)
numbering_more ps qs count i p d h e f q =
    let mark : get_or (marks_in ps) i false ≡ is_mark (get_or qs i d) = ap (λ ms. get_or ms i false) (sym q.same) ∙ get_or-map is_mark qs i d false h in
    record {
      few = let f = q.few in let m = mark_few _ (not (eqb (get_or qs i d).state 0)) refl in omega arith;
      counted = rw before_more (rw mark (ap (λ n. n + bool_byte (is_mark (get_or qs i d))) q.counted));
      same =
          map-set is_mark qs i p ∙
          ap (set (marks_in qs) i) (ap (λ n. not (eqb n 0)) e ∙ sym (get_or-map is_mark qs i d false h)) ∙
          set-get_or (marks_in qs) i false ∙ q.same;
      numbers = λ k b l. each k b l (cases_eq k i);
    }
  where
    each : (k : ℕ) (b : Place) → k < i + 1 → (k ≡ i) ⊎ (k ≡ i → ⊥) → (get_or (set qs i p) k b).number ≡ renumber (marks_in ps) (suc (suc k))
    each k b l (inl s) = rw (s, get_or-set_same qs i p b h, f) (let c = q.counted in omega arith)
    each k b l (inr s) = rw (get_or-set_other qs i k p b s) (q.numbers k b (omega arith))

-- the places have numbers, so a link's is read there
number_read : (ps : List Place) (k other : ℕ) (p : Place) → k < length ps → number_at ps k other ≡ (get_or ps k p).number
number_read [] k other p h = absurd (omega arith)
number_read (q ∷ ps) zero other p h = refl
number_read (q ∷ ps) (suc k) other p h = number_read ps k other p (omega arith)

number_past : (ps : List Place) (k other : ℕ) → length ps ≤ k → number_at ps k other ≡ other
number_past [] k other h = refl
number_past (q ∷ ps) zero other h = absurd (omega arith)
number_past (q ∷ ps) (suc k) other h = number_past ps k other (omega arith)

pub noted_read : (ps : List Place) (n : ℕ) (p : Place) → 2 ≤ n → n - 2 < length ps → p ≡ get_or ps (n - 2) p → p.number ≡ noted ps n
noted_read ps zero p l h e = absurd (omega arith)
noted_read ps (suc zero) p l h e = absurd (omega arith)
noted_read ps (suc (suc k)) p l h e =
    let back : suc (suc k) - 2 ≡ k = omega arith in
    let f : p ≡ get_or ps k p = rw back at e in
    sym (number_read ps k (suc (suc k)) p (omega arith) ∙ ap (λ (q : Place). q.number) (sym f))

pub noted_past : (ps : List Place) (n : ℕ) → 2 ≤ n → length ps ≤ n - 2 → n ≡ noted ps n
noted_past ps zero l h = refl
noted_past ps (suc zero) l h = refl
noted_past ps (suc (suc k)) l h = sym (number_past ps k (suc (suc k)) (omega arith))

-- a place that is looked up tells a link's new number
pub noted_if : (ps : List Place) (n : ℕ) (r : Option (Bor Place)) (m : ℕ) {P : Bor Place → Type 0} → 2 ≤ n → IfSome r (λ p. p.now ≡ get_or ps (n - 2) p.now) →
    MatchOption r (length ps ≤ n - 2) (λ p. (n - 2 < length ps) × HoldsAt (λ q. p.now ≡ q) ps (n - 2)) →
    MatchOption r (m ≡ n) P → ((p : Bor Place) → P p → m ≡ p.now.number) → m ≡ noted ps n
noted_if ps n None m l e h q f = q ∙ noted_past ps n l h
noted_if ps n (Some p) m l e h q f = f p q ∙ noted_read ps n p.now l h.0 e

pub noted_of : (ps qs : List Place) (n : ℕ) → length qs ≡ length ps → Renumbered ps qs → n ≤ length ps + 1 → noted qs n ≡ renumber (marks_in ps) n
noted_of ps qs zero l r h = refl
noted_of ps qs (suc zero) l r h = refl
noted_of ps qs (suc (suc k)) l r h =
    let d : Place = record { state = 0; list = 0; other = 0; number = 0; count = 0 } in
    number_read qs k (suc (suc k)) d (omega arith) ∙ r k d (omega arith)

pub noted_new : (ps : List Place) (n : ℕ) → Renumbered ps ps → n ≤ length ps + 1 → noted ps n ≡ renumber (marks_in ps) n
noted_new ps n r h = noted_of ps ps n refl r h

-- places that were given their numbers keep them, and their marks
pub renumbered_now : (ps qs : List Place) → length qs ≡ length ps → marks_in qs ≡ marks_in ps → Renumbered ps qs → Renumbered qs qs
renumbered_now ps qs l e r k d h = r k d (omega arith) ∙ ap (λ ms. renumber ms (suc (suc k))) (sym e)
