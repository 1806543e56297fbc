-- The text of a code of steps, as in T3/B20/P7: what it is, and what it is to spell a code.
use Rattle.std.specs.Prelude.{◌≡◌, ℕ, ◌+◌, ◌<◌, ◌↔◌, List, [], ◌∷◌, ◌++◌, length, take, drop, Ok, Err, decimal, Result}
use Rattle.std.specs.List.{flat_map, AllByRecursion}
use Rattle.texts.specs.declared.TextFault.{TextFault}
use Rattle.texts.specs.declared.TextFault.TheVariants.{Unreadable}
use Rattle.steps.specs.Units.{unit_letter}
use Rattle.steps.specs.declared.Step.{Step}

-- a step's text: the letter of its unit, then its number in decimal
abbrev pub step_text : Step → List ℕ
step_text s = unit_letter s.unit ∷ decimal s.number

-- a slash, then a step's text
abbrev pub slashed : Step → List ℕ
slashed s = 47 ∷ step_text s

-- a code's text: the texts of its steps, with a slash between
abbrev pub text_of : List Step → List ℕ
text_of [] = []
text_of (s ∷ code) = step_text s ++ flat_map slashed code

-- a number of 16 bits
abbrev pub Short : Step → Type 0
Short s = s.number < 65536

-- a text spells a code exactly if it is the code's text, each number of 16 bits; a text that spells none is unreadable
pub record Exact (t : List ℕ) (spelled : Result (List Step) TextFault) : Type 0 where
  pub spells : (code : List Step) → (spelled ≡ Ok code) ↔ ((text_of code ≡ t) × AllByRecursion Short code)
  pub fails : (fault : TextFault) → spelled ≡ Err fault → fault ≡ Unreadable

-- an output with bytes laid from a place on
abbrev pub laid : ℕ → List ℕ → List ℕ → List ℕ
laid at bytes out = take at out ++ (bytes ++ drop (at + length bytes) out)
