-- The walk that meets the vertices of a list: a means of the proofs.
use Rattle.std.specs.Prelude.{◌≡◌, ℕ, ◌+◌, ◌-◌, ◌*◌, ◌<◌, ◌≤◌, Bool, ◌⊎◌, List, [], ◌∷◌, map, length, Some, None, Option}
use Rattle.memory.specs.declared.work.Place.{Place}
use Rattle.ledger.specs.declared.Vertex.{Vertex}
use Rattle.ledger.specs.Lists.{Codes}
use Rattle.ledger.specs.Diagrams.{look}
use Rattle.ledger.specs.Ledger.{lay, codes}
use Rattle.writing.specs.Met.{met_numbers, Sparse, Met, Unmet}

-- the numbers that wait, the last first
abbrev pub waiting : List Place → List ℕ
waiting ps = map (λ (p : Place). p.list) ps

abbrev pub Above : ℕ → List ℕ → Type 0
Above n [] = Unit {0}
Above n (k ∷ ks) = (n < k) × Above n ks

-- those that wait are vertices that are not met, each above the next
abbrev pub Stacked : List Place → ℕ → List ℕ → Type 0
Stacked ps m [] = Unit {0}
Stacked ps m (n ∷ ns) = (2 ≤ n) × (n + length ns ≤ length ps + 1) × Unmet ps m n × Above n ns × Stacked ps m ns

abbrev pub Walking : List Place → List ℕ → ℕ → Type 0
Walking seen ns met = (met ≤ length seen) × Sparse seen met × Stacked seen met ns

-- the first link that is not met
abbrev pub NextBelow : List Place → ℕ → ℕ → Option ℕ → Type 0
NextBelow ps m n None = Unit {0}
NextBelow ps m n (Some link) = (link < n) × (2 ≤ link) × Unmet ps m link

abbrev pub Passed : List Place → ℕ → ℕ → Type 0
Passed ps m link = (link < 2) ⊎ Met ps m link

abbrev pub NextLink : {S : Type 0} → List (Vertex S) → List Place → ℕ → ℕ → Option ℕ → Type 0
NextLink {S} vs ps m n None = (v : Vertex S) × (look vs n ≡ Some v) × Passed ps m v.zero × Passed ps m v.one
NextLink {S} vs ps m n (Some link) =
    (v : Vertex S) × (look vs n ≡ Some v) × ((link ≡ v.zero) ⊎ (Passed ps m v.zero × (link ≡ v.one)))

-- how much a walk may still take
abbrev pub first_of : List ℕ → ℕ
first_of [] = 0
first_of (n ∷ ns) = n

abbrev pub left : List Place → List ℕ → ℕ → ℕ
left seen ns met = (length seen - met) * (length seen + 2) + first_of ns

abbrev pub Turns : List Place → List ℕ → ℕ → List Place → List ℕ → ℕ → Type 0
Turns seen ns met seen_after ns_after met_after = Walking seen_after ns_after met_after × (left seen_after ns_after met_after < left seen ns met)

-- the lists of those that wait are laid down, the last first
abbrev pub laying_all : {S : Type 0} → (S → S → Bool) → List (Vertex S) → List ℕ → List (Codes S) → List (Codes S)
laying_all before vs [] row = row
laying_all before vs (n ∷ ns) row = laying_all before vs ns (lay before row (codes vs n))

-- where a walk leads: to the row of the lists that are met, after those that wait are laid down
abbrev pub target : {S : Type 0} → (S → S → Bool) → List (Vertex S) → List Place → List ℕ → ℕ → List (Codes S)
target before vs seen ns met = laying_all before vs ns (map (codes vs) (met_numbers seen met))

abbrev pub TurnsTo : {S : Type 0} → (S → S → Bool) → List (Vertex S) → List Place → List ℕ → ℕ → List Place → List ℕ → ℕ → Type 0
TurnsTo before vs seen ns met seen_after ns_after met_after = target before vs seen_after ns_after met_after ≡ target before vs seen ns met
