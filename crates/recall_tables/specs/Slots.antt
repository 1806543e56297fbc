-- A table in slots: which slot a question has, when a slot is full, and the entries.
use Rattle.std.specs.Prelude.{◌≡◌, ℕ, ◌+◌, ◌*◌, ◌/◌, ◌%◌, ◌^◌, ◌<◌, min, Bool, false, cond, ◌&&◌, List, length, Some, None, Option, ◌==◌, ◌≢◌, bit_xor, nat_lt}
use Rattle.std.specs.List.{slice_get}
use Rattle.memory.specs.declared.recall.Question.{Question}
use Rattle.recall_tables.specs.declared.Slot.{Slot}

-- a number from the whole question
unfoldable pub stir : ℕ → ℕ
stir x = bit_xor x (x / 2 ^ 32) * 0x9E37_79B9_7F4A_7C15 % 2 ^ 64

unfoldable pub scatter : Question → ℕ
scatter q = stir (stir (bit_xor (q.first * 0x1_0000_0000 + q.second) (q.rule * 0x9D_DFEA_08EB_382D))) / 2 ^ 32

-- slots have numbers of 32 bits
abbrev pub slot_count : List Slot → ℕ
slot_count slots = min (length slots) 4294967295

-- the slot of a question, of so many
unfoldable pub slot_of : ℕ → Question → ℕ
slot_of count q = scatter q * count / 2 ^ 32

abbrev pub same_question : Question → Question → Bool
same_question a b = a.first == b.first && (a.second == b.second && a.rule == b.rule)

-- the note of a turn has this slot's number
abbrev pub notes : Option Slot → ℕ → Bool
notes None i = false
notes (Some note) i = note.filled == i

-- slot i was filled in this turn, one of the turns so far
abbrev pub filled_in : List Slot → ℕ → ℕ → ℕ → Bool
filled_in slots turns turn i = nat_lt turn turns && notes (slice_get slots turn) i

abbrev pub entry_in : List Slot → ℕ → ℕ → Option Slot → Question → Option ℕ
entry_in slots turns i None q = None
entry_in slots turns i (Some slot) q =
    cond (same_question slot.question q && filled_in slots turns slot.turn i) (Some slot.answer) None

-- the entry for a question: that in its slot, if the slot is full and the entry is this question's
abbrev pub held : List Slot → ℕ → Question → Option ℕ
held slots turns q = entry_in slots turns (slot_of (slot_count slots) q) (slice_get slots (slot_of (slot_count slots) q)) q

-- with a slot at all, the table has the entry that it was told
abbrev pub Recalls : List Slot → Question → ℕ → (Question → Option ℕ) → Type 0
Recalls slots question answer table = 0 < length slots → table question ≡ Some answer

-- entries in other slots stay, as long as there are fewer turns than slots
abbrev pub Spares : List Slot → ℕ → Question → (Question → Option ℕ) → Type 0
Spares slots turns question table =
    turns < slot_count slots → (q : Question) → (slot_of (slot_count slots) q ≢ slot_of (slot_count slots) question) → table q ≡ held slots turns q
