-- What a call that reads hexadecimal text leaves in a lent output.
use Rattle.std.specs.Prelude.{◌≡◌, ℕ, List, Ok, Err, Result}
use Rattle.texts.specs.Texts.{Starts, NoRoom}
use Rattle.commands.specs.declared.hex.HexFault.{HexFault}
use Rattle.commands.specs.declared.hex.HexFault.TheVariants.{NotHexadecimal, OutputTooShort}
use Rattle.commands.specs.Hexadecimals.{Writes, Hexadecimal}

-- the bytes that a hexadecimal text writes are put at the start of an output, or refused
abbrev pub Decodes : List ℕ → List ℕ → List ℕ → Result ℕ HexFault → Type 0
Decodes text old new (Ok n) = (bytes : List ℕ) × Writes text bytes × Starts bytes old new n
Decodes text old new (Err NotHexadecimal) = (Hexadecimal text → ⊥) × (new ≡ old)
Decodes text old new (Err OutputTooShort) = (bytes : List ℕ) × Writes text bytes × NoRoom bytes old new
