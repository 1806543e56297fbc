-- A code read from its text and written as its text, over any kind of symbol.
use Rattle.std.specs.Prelude.{◌≡◌, ℕ, ◌<◌, ◌≤◌, List, ◌++◌, length, take, drop, Ok, Err, Result}
use Rattle.symbols.specs.declared.ShortOutput.{ShortOutput}
use Rattle.texts.specs.declared.TextFault.{TextFault}

-- a text that spells a code is that code's own text
abbrev pub OwnText : {S : Type 0} → (List ℕ → Result (List S) TextFault) → (List S → List ℕ) → Type 0
OwnText {S} spells text = (t : List ℕ) (code : List S) → spells t ≡ Ok code → text code ≡ t

-- an output with a code at its start, as much of it as there is room for, and after it what was there
abbrev pub filled : {S : Type 0} → List S → List S → List S
filled code out = take (length out) code ++ drop (length code) out

-- what a text spells is read to the start of an output, and the answer is how many symbols the code has; a refusal leaves
-- the output as it was
abbrev pub ReadTo : {S : Type 0} → Result (List S) TextFault → List S → Result ℕ TextFault → List S → Type 0
ReadTo (Ok code) old r new = (r ≡ Ok (length code)) × (new ≡ filled code old)
ReadTo (Err fault) old r new = (r ≡ Err fault) × (new ≡ old)

-- the same, but that a refusal may find the output begun
abbrev pub Begun : {S : Type 0} → Result (List S) TextFault → List S → Result ℕ TextFault → List S → Type 0
Begun (Ok code) old r new = (r ≡ Ok (length code)) × (new ≡ filled code old)
Begun (Err fault) old r new = r ≡ Err fault

-- a text stands at the start of an output, whose rest is as it was
abbrev pub Starts : List ℕ → List ℕ → List ℕ → ℕ → Type 0
Starts text old new n = (length text ≤ length old) × (n ≡ length text) × (new ≡ text ++ drop (length text) old)

-- an output has no room for a text, and is as it was
abbrev pub NoRoom : List ℕ → List ℕ → List ℕ → Type 0
NoRoom text old new = (length old < length text) × (new ≡ old)

-- a text is written to the start of an output, and the answer is its length; refused, with the output as it was, exactly
-- if it does not fit
abbrev pub WrittenTo : List ℕ → List ℕ → Result ℕ ShortOutput → List ℕ → Type 0
WrittenTo text old (Ok n) new = Starts text old new n
WrittenTo text old (Err short) new = NoRoom text old new
