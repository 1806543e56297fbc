-- An entry, part by part: the slot that it stands in, and the note of the turn in which it came.
use Rattle.std.proofs.Common.{◌≡◌, ℕ, ◌*◌, ◌/◌, ◌<◌, ◌≤◌, true, ◌&&◌, eqb, ltb, ◌⊎◌, List, length, get_or, Some, None, sym, refl, ap, ◌∙◌, inl, inr, mul_comm, arith}
use native.Mathlib.Nat.{mul-lt-mul_of_pos_left}
use Rattle.std.specs.List.{slice_get}
use Rattle.std.proofs.lemmas.Nat.{div_below}
use Rattle.std.proofs.lemmas.Option.{slice_get-get_or, slice_get_past}
use Rattle.std.proofs.lemmas.Bool.{and_from, and_parts, cases_lt, eq-eqb, eqb-true, false≢true, lt-ltb, ltb-true}
use Rattle.memory.specs.declared.recall.Question.{Question}
use Rattle.recall_tables.specs.declared.Slot.{Slot}
use Rattle.recall_tables.specs.Finite.{entry_parts}
use Rattle.recall_tables.specs.Slots.{same_question, notes, filled_in, entry_in, slot_count, slot_of, held}

-- a part of the range of 32 bits, of so many slots
pub part_below : (s count : ℕ) → s < 4294967296 → 0 < count → s * count / 4294967296 < count
part_below s count h p =
    div_below (s * count) 4294967296 count (omega arith)
    (let l : count * s < count * 4294967296 = mul-lt-mul_of_pos_left h p in omega (arith, mul_comm s count))

abbrev pub bare : Slot
bare = record { question = record { rule = 0; first = 0; second = 0 }; answer = 0; turn = 0; filled = 0 }

pub record Filled (xs : List Slot) (turns turn i : ℕ) : Type 0 where
  pub early : turn < turns
  pub inside : turn < length xs
  pub names : (get_or xs turn bare).filled ≡ i

pub filled_parts : (xs : List Slot) (turns turn i : ℕ) → filled_in xs turns turn i ≡ true → Filled xs turns turn i
filled_parts xs turns turn i e = by (cases_lt turn (length xs))
  where
    p : (ltb turn turns ≡ true) × (notes (slice_get xs turn) i ≡ true)
    p = and_parts (ltb turn turns) (notes (slice_get xs turn) i) e

    by : (turn < length xs) ⊎ (length xs ≤ turn) → Filled xs turns turn i
    by (inl h) =
        let n : eqb (get_or xs turn bare).filled i ≡ true = ap (λ o. notes o i) (sym (slice_get-get_or xs turn bare h)) ∙ p.1 in
        record { early = ltb-true turn turns p.0; inside = h; names = eqb-true (get_or xs turn bare).filled i n }
    by (inr h) = absurd (false≢true (ap (λ o. notes o i) (sym (slice_get_past xs turn h)) ∙ p.1))

pub filled_whole : (xs : List Slot) (turns turn i : ℕ) → Filled xs turns turn i → filled_in xs turns turn i ≡ true
filled_whole xs turns turn i f =
    and_from (ltb turn turns) (notes (slice_get xs turn) i) (lt-ltb turn turns f.early)
    (ap (λ o. notes o i) (slice_get-get_or xs turn bare f.inside) ∙ eq-eqb (get_or xs turn bare).filled i f.names)

-- slot k holds the answer n to the question q
pub record Holds (xs : List Slot) (turns k : ℕ) (q : Question) (n : ℕ) : Type 0 where
  pub inside : k < length xs
  pub asked : (get_or xs k bare).question ≡ q
  pub answered : (get_or xs k bare).answer ≡ n
  pub filled : Filled xs turns (get_or xs k bare).turn k

same_self : (q : Question) → same_question q q ≡ true
same_self q =
    and_from (eqb q.first q.first) (eqb q.second q.second && eqb q.rule q.rule) (eq-eqb q.first q.first refl)
    (and_from (eqb q.second q.second) (eqb q.rule q.rule) (eq-eqb q.second q.second refl) (eq-eqb q.rule q.rule refl))

pub holds_parts : (xs : List Slot) (turns k : ℕ) (q : Question) (n : ℕ) → k ≡ slot_of (slot_count xs) q → held xs turns q ≡ Some n → Holds xs turns k q n
holds_parts xs turns k q n here e = by (cases_lt k (length xs))
  where
    f : entry_in xs turns k (slice_get xs k) q ≡ Some n
    f = ap (λ j. entry_in xs turns j (slice_get xs j) q) here ∙ e

    by : (k < length xs) ⊎ (length xs ≤ k) → Holds xs turns k q n
    by (inl h) =
        let p = entry_parts xs turns k (get_or xs k bare) q n (ap (λ o. entry_in xs turns k o q) (sym (slice_get-get_or xs k bare h)) ∙ f) in
        record { inside = h; asked = p.0; answered = p.2; filled = filled_parts xs turns (get_or xs k bare).turn k p.1 }
    by (inr h) = let none : None ≡ Some n = ap (λ o. entry_in xs turns k o q) (sym (slice_get_past xs k h)) ∙ f in absurd (cc)

-- what slot k answers
pub held_slot : (xs : List Slot) (turns k : ℕ) (q : Question) → k ≡ slot_of (slot_count xs) q → k < length xs → held xs turns q ≡ entry_in xs turns k (Some (get_or xs k bare)) q
held_slot xs turns k q here h = ap (λ j. entry_in xs turns j (slice_get xs j) q) (sym here) ∙ ap (λ o. entry_in xs turns k o q) (slice_get-get_or xs k bare h)

pub entry_own : (xs : List Slot) (turns k : ℕ) (s : Slot) (q : Question) → s.question ≡ q → filled_in xs turns s.turn k ≡ true → Some s.answer ≡ entry_in xs turns k (Some s) q
entry_own xs turns k s q asked full =
    let same : same_question s.question q ≡ true = ap (same_question s.question) (sym asked) ∙ same_self s.question in
    rw (and_from (same_question s.question q) (filled_in xs turns s.turn k) same full)

pub holds_whole : (xs : List Slot) (turns k : ℕ) (q : Question) (n : ℕ) → k ≡ slot_of (slot_count xs) q → Holds xs turns k q n → held xs turns q ≡ Some n
holds_whole xs turns k q n here h =
    held_slot xs turns k q here h.inside ∙
    sym (entry_own xs turns k (get_or xs k bare) q h.asked (filled_whole xs turns (get_or xs k bare).turn k h.filled)) ∙
    ap Some h.answered
