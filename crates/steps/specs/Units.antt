-- Units, steps, and their bytes.
use Rattle.std.specs.Prelude.{ℕ, ◌+◌, ◌*◌, ◌/◌, ◌%◌, Bool, cond, List, [], ◌∷◌, Some, None, Ok, Err, Option, Result, ◌==◌, slice_index}
use Rattle.symbols.specs.Order.{lower}
use Rattle.symbols.specs.Wire.{Travel}
use Rattle.symbols.specs.declared.SymbolFault.{SymbolFault}
use Rattle.steps.specs.declared.Step.{Step}
use Rattle.steps.specs.declared.Unit.{Unit as Kind}
use Rattle.steps.specs.declared.Unit.TheVariants.{Site, Trench, Context, Bag, Sherd, SoilSample, Photo}

abbrev pub unit_byte : Kind → ℕ
unit_byte Site = 1
unit_byte Trench = 2
unit_byte Context = 3
unit_byte Bag = 4
unit_byte Sherd = 5
unit_byte SoilSample = 6
unit_byte Photo = 7

-- the unit of a byte, and the fault of any other
abbrev pub unit_of : ℕ → Result Kind SymbolFault
unit_of b =
    cond (b == 1) (Ok Site)
    (cond (b == 2) (Ok Trench)
    (cond (b == 3) (Ok Context)
    (cond (b == 4) (Ok Bag)
    (cond (b == 5) (Ok Sherd)
    (cond (b == 6) (Ok SoilSample)
    (cond (b == 7) (Ok Photo) (Err (record { byte = b }))))))))

-- by unit, then by number
abbrev pub earlier : Step → Step → Bool
earlier a b = lower (unit_byte a.unit) a.number (unit_byte b.unit) b.number

-- the three bytes of a step: the unit, then the number, the higher byte first
abbrev pub step_bytes : Step → List ℕ
step_bytes s = unit_byte s.unit ∷ (s.number / 256) ∷ (s.number % 256) ∷ []

abbrev pub with_number : ℕ → Result Kind SymbolFault → Result Step SymbolFault
with_number n (Ok u) = Ok (record { unit = u; number = n })
with_number n (Err fault) = Err fault

-- what three bytes read as
abbrev pub step_of : List ℕ → Result Step SymbolFault
step_of bs = with_number (slice_index bs 1 * 256 + slice_index bs 2) (unit_of (slice_index bs 0))

-- steps travel as kind 2, each as its three bytes
abbrev pub step_travel : Travel Step
step_travel = record { kind = 2; width = 3; bytes = step_bytes; reads = step_of }

-- the letter of a unit in a text: S T C B P M F
abbrev pub unit_letter : Kind → ℕ
unit_letter Site = 83
unit_letter Trench = 84
unit_letter Context = 67
unit_letter Bag = 66
unit_letter Sherd = 80
unit_letter SoilSample = 77
unit_letter Photo = 70

-- the unit of a letter
abbrev pub unit_of_letter : ℕ → Option Kind
unit_of_letter c =
    cond (c == 83) (Some Site)
    (cond (c == 84) (Some Trench)
    (cond (c == 67) (Some Context)
    (cond (c == 66) (Some Bag)
    (cond (c == 80) (Some Sherd)
    (cond (c == 77) (Some SoilSample)
    (cond (c == 70) (Some Photo) None))))))
