-- Reading a code of steps a byte at a time: the means by which a text is found to spell a code, or none.
use Rattle.std.specs.Prelude.{◌≡◌, ℕ, ◌+◌, ◌-◌, ◌*◌, cond, not, ◌&&◌, List, [], ◌∷◌, Some, None, Ok, Option, Result, ◌==◌, nat_le, nat_lt, slice_set}
use Rattle.std.specs.Option.{option_map, ok_or}
use Rattle.texts.specs.Decimals.{digit_of}
use Rattle.texts.specs.declared.TextFault.{TextFault}
use Rattle.texts.specs.declared.TextFault.TheVariants.{Unreadable}
use Rattle.steps.specs.Units.{unit_of_letter}
use Rattle.steps.specs.declared.Step.{Step}
use Rattle.steps.specs.declared.Unit.{Unit as Kind}
use Rattle.steps.specs.declared.reading.Stage.{Stage}
use Rattle.steps.specs.declared.reading.Stage.TheVariants.{Start, Lettered, Numbered}
use Rattle.steps.specs.declared.reading.Turn.{Turn}

-- one digit more of a number, if it has no leading zero and stays below 2 ^ 16
abbrev pub grown : ℕ → ℕ → Option ℕ
grown n b = cond (nat_le 48 b && nat_le b 57 && not (n == 0) && nat_lt (n * 10 + (b - 48)) 65536) (Some (n * 10 + (b - 48))) None

-- a turn that ends no step
abbrev pub within : Stage → Turn
within stage = record { done = None; next = stage }

abbrev pub numbered : Kind → ℕ → Stage
numbered u n = Numbered (record { unit = u; number = n })

-- what a byte does at each stage
abbrev pub turned : Stage → ℕ → Option Turn
turned Start b = option_map (λ u. within (Lettered u)) (unit_of_letter b)
turned (Lettered u) b = option_map (λ n. within (numbered u n)) (digit_of b)
turned (Numbered s) b = cond (b == 47) (Some (record { done = Some s; next = Start })) (option_map (λ n. within (numbered s.unit n)) (grown s.number b))

abbrev pub with_done : Option Step → List Step → List Step
with_done None code = code
with_done (Some s) code = s ∷ code

-- a step that has ended is kept in its place, if the output has that place, and counted
abbrev pub Kept : Option Step → ℕ → List Step → ℕ → List Step → Type 0
Kept None count old r new = (r ≡ count) × (new ≡ old)
Kept (Some s) count old r new = (r ≡ count + 1) × (new ≡ slice_set old count s)

-- the steps of a text that ends at a stage
abbrev pub ended : Stage → Option (List Step)
ended Start = None
ended (Lettered u) = None
ended (Numbered s) = Some (s ∷ [])

-- the steps of a text from a turn on, by those from a stage on
abbrev pub gone_on : (Stage → Option (List Step)) → Option Turn → Option (List Step)
gone_on rest None = None
gone_on rest (Some t) = option_map (with_done t.done) (rest t.next)

-- the steps that what remains of a text gives, from a stage on
abbrev pub steps_from : Stage → List ℕ → Option (List Step)
steps_from stage [] = ended stage
steps_from stage (b ∷ bs) = gone_on (λ next. steps_from next bs) (turned stage b)

-- what a text spells; the empty text is the empty code
abbrev pub spelled : List ℕ → Result (List Step) TextFault
spelled [] = Ok []
spelled (b ∷ bs) = ok_or (steps_from Start (b ∷ bs)) Unreadable
