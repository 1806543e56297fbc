-- What a walk along a code answers.
use Rattle.std.specs.Prelude.{◌≡◌, ℕ, Bool, List}
use Rattle.ledger.specs.declared.Vertex.{Vertex}
use Rattle.ledger.specs.Lists.{Codes}
use Rattle.ledger.specs.Diagrams.{Good, Sound}
use Rattle.ledger.specs.Ledger.{number, lists, codes}
use Rattle.ledger.specs.Operations.{under}

-- what holds of the list with number n, where the vertices are sound and n is good
abbrev pub WhenGood : {S : Type 0} → (S → S → Bool) → List (Vertex S) → ℕ → (Codes S → Type 0) → Type 0
WhenGood before vs n P = Sound before vs → Good vs n → P (codes vs n)

-- r is a good number, its list is t, and it is the number of t
abbrev pub Numbers : {S : Type 0} → (S → S → Bool) → List (Vertex S) → Codes S → ℕ → Type 0
Numbers before vs t r = Good vs r × (codes vs r ≡ t) × (r ≡ number before (lists vs) t)

-- a code leads from the list t to what remains under it
abbrev pub Leads : {S : Type 0} → (S → S → Bool) → List (Vertex S) → Codes S → List S → ℕ → Type 0
Leads before vs t code r = Good vs r × (codes vs r ≡ under before t code)
