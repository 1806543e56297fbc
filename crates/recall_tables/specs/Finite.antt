-- A table in slots is finite: each question with an entry stands in a slot.
use Rattle.std.specs.Prelude.{◌≡◌, ℕ, zero, suc, true, false, ◌&&◌, ◌⊎◌, ◌≢◌, List, [], ◌∷◌, map, Some, None, Option, ◌==◌, refl}
use mathlib.Core.List.{Memᴰ}
use Rattle.std.proofs.Common.{inl, inr, sym, ap, ◌∙◌}
use Rattle.std.specs.List.{slice_get}
use Rattle.std.proofs.lemmas.Bool.{and_parts, cases_Bool, eqb-true}
use Rattle.memory.specs.declared.recall.Question.{Question}
use Rattle.memory.specs.Tables.{Finite}
use Rattle.recall_tables.specs.declared.Slot.{Slot}
use Rattle.recall_tables.specs.Slots.{same_question, filled_in, entry_in, slot_count, slot_of, held}

none_some : {n : ℕ} → None ≢ Some n
none_some e = cc

pub none_finite : Finite (λ (q : Question). None)
none_finite = ([], λ q n e. absurd (none_some e))

-- questions that are the same, part by part, are one
pub one_question : (a b : Question) → same_question a b ≡ true → a ≡ b
one_question a b e =
    let p = and_parts (a.first == b.first) (a.second == b.second && a.rule == b.rule) e in
    let q = and_parts (a.second == b.second) (a.rule == b.rule) p.1 in
    let f = eqb-true a.first b.first p.0 in
    let s = eqb-true a.second b.second q.0 in
    let r = eqb-true a.rule b.rule q.1 in
    λ i. record { rule = r i; first = f i; second = s i }

-- what it takes that a slot has an entry
pub entry_parts : (slots : List Slot) (turns i : ℕ) (slot : Slot) (q : Question) (n : ℕ) → entry_in slots turns i (Some slot) q ≡ Some n →
    (slot.question ≡ q) × (filled_in slots turns slot.turn i ≡ true) × (slot.answer ≡ n)
entry_parts slots turns i slot q n e = by (cases_Bool (same_question slot.question q && filled_in slots turns slot.turn i))
  where
    by : ((same_question slot.question q && filled_in slots turns slot.turn i) ≡ true) ⊎ ((same_question slot.question q && filled_in slots turns slot.turn i) ≡ false) →
        (slot.question ≡ q) × (filled_in slots turns slot.turn i ≡ true) × (slot.answer ≡ n)
    by (inl t) =
        let p = and_parts (same_question slot.question q) (filled_in slots turns slot.turn i) t in
        let f : Some slot.answer ≡ Some n = rw t at e in
        (one_question slot.question q p.0, p.1, cc)
    by (inr t) = let f : None ≡ Some n = rw t at e in absurd (cc)

there : (slots : List Slot) (i : ℕ) (slot : Slot) (q : Question) → slice_get slots i ≡ Some slot → slot.question ≡ q → Memᴰ q (map (λ (s : Slot). s.question) slots)
there [] i slot q e f = absurd (cc)
there (s ∷ slots) zero slot q e f = let same : s ≡ slot = cc in Memᴰ.head (sym f ∙ ap (λ (t : Slot). t.question) (sym same))
there (s ∷ slots) (suc i) slot q e f = Memᴰ.tail (there slots i slot q e f)

pub held_finite : (slots : List Slot) (turns : ℕ) → Finite (held slots turns)
held_finite slots turns =
    (map (λ (s : Slot). s.question) slots, λ q n e. by q n (slice_get slots (slot_of (slot_count slots) q)) refl e)
  where
    by : (q : Question) (n : ℕ) (o : Option Slot) → slice_get slots (slot_of (slot_count slots) q) ≡ o → entry_in slots turns (slot_of (slot_count slots) q) o q ≡ Some n →
        Memᴰ q (map (λ (s : Slot). s.question) slots)
    by q n None p e = absurd (cc)
    by q n (Some slot) p e = there slots (slot_of (slot_count slots) q) slot q p (entry_parts slots turns (slot_of (slot_count slots) q) slot q n e).0
