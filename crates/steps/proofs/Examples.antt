-- Texts that spell codes, and texts that spell none.
use Rattle.std.proofs.Common.{◌≡◌, ℕ, List, [], ◌∷◌, Ok, Err, codes, refl}
use Rattle.std.specs.Fmt.{digits}
use Rattle.texts.specs.declared.TextFault.TheVariants.{Unreadable}
use Rattle.steps.specs.Paths.{text_of}
use Rattle.steps.specs.Stages.{spelled}
use Rattle.steps.specs.declared.Step.{Step}
use Rattle.steps.specs.declared.Unit.{Unit as Kind}
use Rattle.steps.specs.declared.Unit.TheVariants.{Site, Trench, Context, Bag, Sherd, SoilSample, Photo}

abbrev at : Kind → ℕ → Step
at u n = record { unit = u; number = n }

abbrev path : List Step
path = at Trench 3 ∷ at Bag 20 ∷ at Sherd 65535 ∷ at Site 0 ∷ []

path_text : text_of path ≡ codes "T3/B20/P65535/S0"
unfolding digits
path_text = refl

path_spelled : spelled (codes "T3/B20/P65535/S0") ≡ Ok path
path_spelled = refl

other_units : spelled (codes "C1/M22/F333") ≡ Ok (at Context 1 ∷ at SoilSample 22 ∷ at Photo 333 ∷ [])
other_units = refl

empty_spelled : spelled [] ≡ Ok []
empty_spelled = refl

abbrev Fails : List ℕ → Type 0
Fails t = spelled t ≡ Err Unreadable

slash_alone : Fails (codes "/")
slash_alone = refl

slash_last : Fails (codes "T1/")
slash_last = refl

slash_first : Fails (codes "/T1")
slash_first = refl

slash_twice : Fails (codes "T1//T2")
slash_twice = refl

leading_zero : Fails (codes "T01")
leading_zero = refl

no_number : Fails (codes "T")
no_number = refl

no_unit : Fails (codes "X1")
no_unit = refl

small_letter : Fails (codes "t1")
small_letter = refl

too_large : Fails (codes "T65536")
too_large = refl

space_last : Fails (codes "T1 ")
space_last = refl
