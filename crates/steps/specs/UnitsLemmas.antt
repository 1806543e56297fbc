-- Units by their bytes and letters, and the order and the bytes of steps.
use Rattle.std.specs.Prelude.{◌≡◌, ℕ, ◌+◌, ◌*◌, ◌/◌, ◌%◌, ◌<◌, List, [], ◌∷◌, length, Some, Ok, Err, Result, refl}
use Rattle.std.proofs.Common.{ap, arith, eqb-true}
use Rattle.symbols.specs.declared.SymbolFault.{SymbolFault}
use Rattle.symbols.proofs.Coded.{by_codes}
use Rattle.symbols.specs.Order.{Order}
use Rattle.symbols.specs.Wire.{Bytes, WireLaws}
use Rattle.steps.specs.Units.{unit_byte, unit_of, earlier, step_bytes, step_of, step_travel, with_number, unit_letter, unit_of_letter}
use Rattle.steps.specs.declared.Step.{Step}
use Rattle.steps.specs.declared.Unit.{Unit as Kind}
use Rattle.steps.specs.declared.Unit.TheVariants.{Site, Trench, Context, Bag, Sherd, SoilSample, Photo}

pub unit_back : (u : Kind) → unit_of (unit_byte u) ≡ Ok u
unit_back Site = refl
unit_back Trench = refl
unit_back Context = refl
unit_back Bag = refl
unit_back Sherd = refl
unit_back SoilSample = refl
unit_back Photo = refl

pub letter_back : (u : Kind) → unit_of_letter (unit_letter u) ≡ Some u
letter_back Site = refl
letter_back Trench = refl
letter_back Context = refl
letter_back Bag = refl
letter_back Sherd = refl
letter_back SoilSample = refl
letter_back Photo = refl

pub one_unit : (u v : Kind) → unit_byte u ≡ unit_byte v → u ≡ v
one_unit u v e =
    let p = ap unit_of e in
    let q = unit_back u in
    let r = unit_back v in
    cc

pub unit_own : (b : ℕ) (u : Kind) → unit_of b ≡ Ok u → unit_byte u ≡ b
unit_own b u e = grind (arith, eqb-true)

pub letter_own : (c : ℕ) (u : Kind) → unit_of_letter c ≡ Some u → unit_letter u ≡ c
letter_own c u e = grind (arith, eqb-true)

pub step_order : Order earlier
step_order = by_codes (λ s. unit_byte s.unit) (λ s. s.number) (λ a b u n. let v = one_unit a.unit b.unit u in λ i. record { unit = v i; number = n i })

pub step_back : (s : Step) → step_of (step_bytes s) ≡ Ok s
step_back s =
    let n : s.number / 256 * 256 + s.number % 256 ≡ s.number = omega arith in
    rw (unit_back s.unit) (ap (λ m. Ok (record { unit = s.unit; number = m })) n)

made : (n : ℕ) (r : Result Kind SymbolFault) (s : Step) → with_number n r ≡ Ok s → (r ≡ Ok s.unit) × (n ≡ s.number)
made n (Ok u) s e = let t : ◌≡◌ {A = Step} (record { unit = u; number = n }) s = cc in (ap (λ y. Ok y.unit) t, ap (λ y. y.number) t)
made n (Err d) s e = absurd cc

pub step_own : (bs : List ℕ) (s : Step) → length bs ≡ 3 → Bytes bs → step_of bs ≡ Ok s → step_bytes s ≡ bs
step_own [] s l k e = absurd (omega arith)
step_own (a ∷ []) s l k e = absurd (omega arith)
step_own (a ∷ b ∷ []) s l k e = absurd (omega arith)
step_own (a ∷ b ∷ c ∷ []) s l k e =
    let parts = made (b * 256 + c) (unit_of a) s e in
    let first = unit_own a s.unit parts.0 in
    let small : c < 256 = k 2 (omega arith) in
    let number : b * 256 + c ≡ s.number = parts.1 in
    let high : s.number / 256 ≡ b = omega arith in
    let low : s.number % 256 ≡ c = omega arith in
    cc
step_own (a ∷ b ∷ c ∷ d ∷ bs) s l k e = absurd (omega arith)

-- the law of the bytes of steps
pub step_laws : WireLaws step_travel
step_laws = record {
  one_byte = omega arith;
  some = omega arith;
  few = omega arith;
  long = λ s. refl;
  back = step_back;
  own = step_own;
}
