-- Filling a slot: the turn's note gets the slot's number, the slot gets the entry and the turn, and no other slot's
-- entry comes to be.
use Rattle.std.proofs.Common.{◌≡◌, ℕ, ◌+◌, ◌<◌, ◌≤◌, min, max, true, ◌⊎◌, List, length, get_or, set, Some, None, Option, sym, refl, ap, ◌∙◌, subst, inl, inr, arith}
use Rattle.std.proofs.lemmas.List.{get_or-set_other, get_or-set_same, length-set}
use Rattle.std.proofs.lemmas.Bool.{cases_eq}
use Rattle.memory.specs.declared.recall.Question.{Question}
use Rattle.memory.specs.Tables.{Told}
use Rattle.recall_tables.specs.declared.Slot.{Slot}
use Rattle.recall_tables.specs.Slots.{filled_in, slot_count, slot_of, held, Recalls, Spares}
use Rattle.recall_tables.proofs.Entries.{bare, Filled, filled_whole, Holds, holds_parts, holds_whole}

-- a record with slot i noted in it
abbrev pub noting : List Slot → ℕ → ℕ → List Slot
noting xs turn i =
    set xs turn
    (record { question = (get_or xs turn bare).question; answer = (get_or xs turn bare).answer; turn = (get_or xs turn bare).turn; filled = i })

-- slot i with an entry, and its own note as it is
abbrev pub entering : List Slot → ℕ → Question → ℕ → ℕ → List Slot
entering ys i question answer turn = set ys i (record { question = question; answer = answer; turn = turn; filled = (get_or ys i bare).filled })

same_option : (a b : Option ℕ) → ((n : ℕ) → a ≡ Some n → b ≡ Some n) → ((n : ℕ) → b ≡ Some n → a ≡ Some n) → a ≡ b
same_option None None f g = refl
same_option None (Some n) f g = g n refl
same_option (Some n) b f g = sym (f n refl)

abbrev filling : List Slot → ℕ → ℕ → Question → ℕ → List Slot
filling xs turn i question answer = entering (noting xs turn i) i question answer turn

module _ (xs : List Slot) (turn i : ℕ) (question : Question) (answer : ℕ) (i_inside : i < length xs) (turn_inside : turn < length xs) where
  ys_long : length (noting xs turn i) ≡ length xs
  ys_long = length-set xs turn _

  pub long : length (filling xs turn i question answer) ≡ length xs
  long = length-set (noting xs turn i) i _ ∙ ys_long

  -- the notes: the turn's is slot i, and the others are as they were
  note_kept : (u : ℕ) → (get_or (filling xs turn i question answer) u bare).filled ≡ (get_or (noting xs turn i) u bare).filled
  note_kept u = by (cases_eq u i)
    where
      by : (u ≡ i) ⊎ (u ≡ i → ⊥) → (get_or (filling xs turn i question answer) u bare).filled ≡ (get_or (noting xs turn i) u bare).filled
      by (inl p) = rw p (ap (λ (s : Slot). s.filled) (get_or-set_same (noting xs turn i) i _ bare (omega (arith, ys_long))))
      by (inr p) = ap (λ (s : Slot). s.filled) (get_or-set_other (noting xs turn i) i u _ bare p)

  pub note_new : (get_or (filling xs turn i question answer) turn bare).filled ≡ i
  note_new = note_kept turn ∙ ap (λ (s : Slot). s.filled) (get_or-set_same xs turn _ bare turn_inside)

  pub note_old : (u : ℕ) → (u ≡ turn → ⊥) → (get_or (filling xs turn i question answer) u bare).filled ≡ (get_or xs u bare).filled
  note_old u p = note_kept u ∙ ap (λ (s : Slot). s.filled) (get_or-set_other xs turn u _ bare p)

  -- the entries: slot i's is new, and the others are as they were
  pub slot_new : get_or (filling xs turn i question answer) i bare ≡ record { question = question; answer = answer; turn = turn; filled = (get_or (noting xs turn i) i bare).filled }
  slot_new = get_or-set_same (noting xs turn i) i _ bare (omega (arith, ys_long))

  pub slot_old : (k : ℕ) → (k ≡ i → ⊥) → ((get_or (filling xs turn i question answer) k bare).question ≡ (get_or xs k bare).question) ×
      ((get_or (filling xs turn i question answer) k bare).answer ≡ (get_or xs k bare).answer) × ((get_or (filling xs turn i question answer) k bare).turn ≡ (get_or xs k bare).turn)
  slot_old k p = by (cases_eq k turn)
    where
      same : get_or (filling xs turn i question answer) k bare ≡ get_or (noting xs turn i) k bare
      same = get_or-set_other (noting xs turn i) i k _ bare p

      by : (k ≡ turn) ⊎ (k ≡ turn → ⊥) → ((get_or (filling xs turn i question answer) k bare).question ≡ (get_or xs k bare).question) ×
          ((get_or (filling xs turn i question answer) k bare).answer ≡ (get_or xs k bare).answer) × ((get_or (filling xs turn i question answer) k bare).turn ≡ (get_or xs k bare).turn)
      by (inl q) =
          let e : get_or (noting xs turn i) turn bare ≡ record { question = (get_or xs turn bare).question; answer = (get_or xs turn bare).answer; turn = (get_or xs turn bare).turn; filled = i } = get_or-set_same xs turn _ bare turn_inside in
          let f = same ∙ ap (λ j. get_or (noting xs turn i) j bare) q ∙ e in (
            ap (λ (s : Slot). s.question) f ∙ ap (λ j. (get_or xs j bare).question) (sym q),
            ap (λ (s : Slot). s.answer) f ∙ ap (λ j. (get_or xs j bare).answer) (sym q),
            ap (λ (s : Slot). s.turn) f ∙ ap (λ j. (get_or xs j bare).turn) (sym q),
          )
      by (inr q) =
          let f = same ∙ get_or-set_other xs turn k _ bare q in
          (ap (λ (s : Slot). s.question) f, ap (λ (s : Slot). s.answer) f, ap (λ (s : Slot). s.turn) f)

module _ (xs : List Slot) (turns turn i : ℕ) (question : Question) (answer then : ℕ)
    (here : i ≡ slot_of (slot_count xs) question) (i_inside : i < length xs) (turn_inside : turn < length xs)
    (early : turn ≤ turns) (count : then ≡ max turns (turn + 1)) where
  many : slot_count xs ≡ slot_count (filling xs turn i question answer)
  many = ap (λ n. min n 4294967295) (sym (long xs turn i question answer i_inside turn_inside))

  same_slot : (q : Question) → slot_of (slot_count xs) q ≡ slot_of (slot_count (filling xs turn i question answer)) q
  same_slot q = ap (λ n. slot_of n q) many

  -- an entry of another slot
  old_entry : (k : ℕ) (q : Question) (n : ℕ) → (k ≡ i → ⊥) → Holds (filling xs turn i question answer) then k q n → Holds xs turns k q n
  old_entry k q n apart h =
      let old = slot_old xs turn i question answer i_inside turn_inside k apart in
      let l = long xs turn i question answer i_inside turn_inside in
      let u = (get_or (filling xs turn i question answer) k bare).turn in
      let f = h.filled in
      let other : u ≡ turn → ⊥ = λ e. apart (sym f.names ∙ ap (λ j. (get_or (filling xs turn i question answer) j bare).filled) e ∙ note_new xs turn i question answer i_inside turn_inside) in
      record {
        inside = omega (arith, h.inside);
        asked = sym old.0 ∙ h.asked;
        answered = sym old.1 ∙ h.answered;
        filled =
            subst (λ t. Filled xs turns t k) old.2
            (record {
              early = before u other f.early;
              inside = omega (arith, f.inside);
              names = sym (note_old xs turn i question answer i_inside turn_inside u other) ∙ f.names;
            });
      }
    where
      before : (u : ℕ) → (u ≡ turn → ⊥) → u < then → u < turns
      before u other h = omega arith

  kept_entry : (k : ℕ) (q : Question) (n : ℕ) → (k ≡ i → ⊥) → (filled_in xs turns turn k ≡ true → k ≡ i) → Holds xs turns k q n → Holds (filling xs turn i question answer) then k q n
  kept_entry k q n apart mine h =
      let old = slot_old xs turn i question answer i_inside turn_inside k apart in
      let l = long xs turn i question answer i_inside turn_inside in
      let u = (get_or xs k bare).turn in
      let f = h.filled in
      let other : u ≡ turn → ⊥ = λ e. apart (mine (filled_whole xs turns turn k (subst (λ t. Filled xs turns t k) e f))) in
      record {
        inside = omega (arith, h.inside);
        asked = old.0 ∙ h.asked;
        answered = old.1 ∙ h.answered;
        filled =
            subst (λ t. Filled (filling xs turn i question answer) then t k) (sym old.2)
            (record {
              early = omega (arith, f.early);
              inside = omega (arith, f.inside);
              names = note_old xs turn i question answer i_inside turn_inside u other ∙ f.names;
            });
      }

  pub told : Told (held xs turns) question answer (held (filling xs turn i question answer) then)
  told q n e = by (cases_eq (slot_of (slot_count xs) q) i)
    where
      h : Holds (filling xs turn i question answer) then (slot_of (slot_count xs) q) q n
      h = holds_parts (filling xs turn i question answer) then (slot_of (slot_count xs) q) q n (same_slot q) e

      by : (slot_of (slot_count xs) q ≡ i) ⊎ (slot_of (slot_count xs) q ≡ i → ⊥) → (held xs turns q ≡ Some n) ⊎ ((q ≡ question) × (n ≡ answer))
      by (inl p) =
          let s = ap (λ j. get_or (filling xs turn i question answer) j bare) p ∙ slot_new xs turn i question answer i_inside turn_inside in
          inr (sym h.asked ∙ ap (λ (s : Slot). s.question) s, sym h.answered ∙ ap (λ (s : Slot). s.answer) s)
      by (inr p) = inl (holds_whole xs turns (slot_of (slot_count xs) q) q n refl (old_entry (slot_of (slot_count xs) q) q n p h))

  pub recalls : Recalls xs question answer (held (filling xs turn i question answer) then)
  recalls some =
      let s = slot_new xs turn i question answer i_inside turn_inside in
      let l = long xs turn i question answer i_inside turn_inside in
      holds_whole (filling xs turn i question answer) then i question answer (here ∙ same_slot question)
      (record {
        inside = omega arith;
        asked = ap (λ (t : Slot). t.question) s;
        answered = ap (λ (t : Slot). t.answer) s;
        filled =
            subst (λ t. Filled (filling xs turn i question answer) then t i) (sym (ap (λ (t : Slot). t.turn) s))
            (record { early = omega arith; inside = omega arith; names = note_new xs turn i question answer i_inside turn_inside });
      })

  pub spares : (turns < slot_count xs → (k : ℕ) → filled_in xs turns turn k ≡ true → k ≡ i) → Spares xs turns question (held (filling xs turn i question answer) then)
  spares mine few q apart =
      let k = slot_of (slot_count xs) q in
      let other : k ≡ i → ⊥ = λ e. apart (e ∙ here) in
      same_option (held (filling xs turn i question answer) then q) (held xs turns q)
      (λ n e. holds_whole xs turns k q n refl (old_entry k q n other (holds_parts (filling xs turn i question answer) then k q n (same_slot q) e)))
      (λ n e. holds_whole (filling xs turn i question answer) then k q n (same_slot q) (kept_entry k q n other (mine few k) (holds_parts xs turns k q n refl e)))
