-- A code of letters and its text.
use Rattle.std.specs.Prelude.{ℕ, List, [], ◌∷◌, map, Ok, Err, Result}
use Rattle.symbols.specs.declared.SymbolFault.{SymbolFault}
use Rattle.texts.specs.declared.TextFault.{TextFault}
use Rattle.texts.specs.declared.TextFault.TheVariants.{Symbol}
use Rattle.letters.specs.Letters.{byte_of, letter_of}
use Rattle.letters.specs.declared.Letter.{Letter}

-- the text of a code: the byte of each letter
abbrev pub text_of : List Letter → List ℕ
text_of code = map byte_of code

-- one letter more in front; the first fault wins
abbrev pub behind : Result Letter SymbolFault → Result (List Letter) TextFault → Result (List Letter) TextFault
behind (Err fault) rest = Err (Symbol fault)
behind (Ok letter) (Err fault) = Err fault
behind (Ok letter) (Ok code) = Ok (letter ∷ code)

-- the letters of a text's bytes, or the fault of the first byte that is no letter
abbrev pub spelled : List ℕ → Result (List Letter) TextFault
spelled [] = Ok []
spelled (b ∷ bs) = behind (letter_of b) (spelled bs)
