-- The text of an answer.
use Rattle.std.specs.Prelude.{ℕ, List, [], ◌∷◌, ◌++◌, codes, decimal}
use Rattle.commands.specs.declared.answer.Answer.{Answer}
use Rattle.commands.specs.declared.answer.Answer.TheVariants as answers
use Rattle.commands.specs.Hexadecimals.{hexadecimal}

-- a text and its line feed
abbrev pub ended : List ℕ → List ℕ
ended text = text ++ (10 ∷ [])

abbrev pub refused_text : ℕ → List ℕ
refused_text n = codes "REFUSED " ++ decimal n

-- numbers are written in decimal without leading zeros, bytes in hexadecimal, the text of a code as it is
abbrev pub answer_text : Answer → List ℕ
answer_text (answers.Number n) = ended (decimal n)
answer_text answers.Yes = ended (codes "YES")
answer_text answers.No = ended (codes "NO")
answer_text (answers.Code text) = ended text.now
answer_text (answers.Bytes bytes) = ended (hexadecimal bytes.now)
answer_text (answers.Refused n) = ended (refused_text n)
