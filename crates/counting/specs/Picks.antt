-- The code of a list with k codes before it, and what pick answers.
use Rattle.std.specs.Prelude.{◌≡◌, ℕ, ◌^◌, ◌<◌, ◌≤◌, List, ◌++◌, length, drop, Some, Ok, Err, Result}
use Rattle.std.specs.List.{slice_get}
use Rattle.ledger.specs.Lists.{Codes, Member}
use Rattle.ledger.specs.Ordered.{ordered}
use Rattle.counting.specs.declared.picking.PickFault.{PickFault}
use Rattle.counting.specs.declared.picking.PickFault.TheVariants.{TooMany, NoSuchCode}

-- no code of the list has more than 64 symbols
abbrev pub Short : {S : Type 0} → Codes S → Type 0
Short {S} t = (c : List S) → Member t c → length c ≤ 64

-- the code with k before it stands at the start of the output, n is its length, and what is past it is as it was
pub record Writes {S : Type 0} (cs : List (List S)) (k : ℕ) (entry : List S) (n : ℕ) (exit : List S) : Type 0 where
  pub code : List S
  pub at_k : slice_get cs k ≡ Some code
  pub long : n ≡ length code
  pub written : exit ≡ code ++ drop n entry

-- what pick answers
abbrev pub Picked : {S : Type 0} → Codes S → ℕ → List S → Result ℕ PickFault → List S → Type 0
Picked t k entry (Ok n) exit = (k < length (ordered t)) × (length (ordered t) < 2 ^ 64) × (Short t → Writes (ordered t) k entry n exit)
Picked t k entry (Err TooMany) exit = 2 ^ 64 ≤ length (ordered t)
Picked t k entry (Err NoSuchCode) exit = (length (ordered t) < 2 ^ 64) × (length (ordered t) ≤ k)

-- what stays of the output, whatever lies on the shelf: all of it where no code is picked
abbrev pub PickKeeps : {S : Type 0} → List S → Result ℕ PickFault → List S → Type 0
PickKeeps entry (Ok n) exit = (n ≤ 64) × (drop n exit ≡ drop n entry)
PickKeeps entry (Err e) exit = exit ≡ entry
