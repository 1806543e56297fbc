-- Pairs of list numbers that are to be joined.
use Rattle.std.specs.Prelude.{◌≡◌, ℕ, ◌+◌, ◌<◌, ◌≤◌, max, Bool, false, cond, ◌≢◌, List, Some, None, Option}
use Rattle.std.specs.Option.{option_map}
use Rattle.ledger.specs.declared.Vertex.{Vertex}
use Rattle.ledger.specs.Lists.{Codes}
use Rattle.ledger.specs.Diagrams.{look, parts}
use Rattle.ledger.specs.Ledger.{codes}
use Rattle.ledger.specs.Operations.{takes, join}
use Rattle.memory.specs.declared.recall.Question.{Question}
use Rattle.joining.specs.declared.pairs.Pair.{Pair}
use Rattle.joining.specs.declared.pairs.Split.{Split}

abbrev pub asked : ℕ → Pair → Question
asked rule pair = record { rule = rule; first = pair.first; second = pair.second }

-- the sum of the two numbers, which falls as a pair is taken apart
abbrev pub sum : Pair → ℕ
sum pair = pair.first + pair.second

-- the list that a pair stands for
abbrev pub joint : {S : Type 0} → (S → S → Bool) → List (Vertex S) → ℕ → Pair → Codes S
joint before vs rule pair = join before (takes rule) (codes vs pair.first) (codes vs pair.second)

-- whatever lists have which code, 0 having none: number n has those codes that the rule takes of the pair
abbrev pub Settled : ℕ → Pair → ℕ → Type 0
Settled rule pair n =
    (n ≤ max pair.first pair.second) × ((has : ℕ → Bool) → has 0 ≡ false → has n ≡ takes rule (has pair.first) (has pair.second))

-- the answer is settled; or it is not, and the numbers are two, none of them 0
abbrev pub Settles : ℕ → Pair → Option ℕ → Type 0
Settles rule pair (Some n) = Settled rule pair n
Settles rule pair None = (0 < pair.first) × (0 < pair.second) × (pair.first ≢ pair.second)

-- two lists parted by a label: of each list, what is outer and what is inner
abbrev pub parted_at : {S : Type 0} → S → ℕ × ℕ → ℕ × ℕ → Split S
parted_at label first second =
    record { label = label; outer = record { first = first.0; second = second.0 }; inner = record { first = first.1; second = second.1 } }

-- a pair taken apart by the vertices of its numbers: the earlier label, the pair of outer and the pair of inner lists; a
-- list without the label as its head has itself outside, and list 0 inside
abbrev pub first_alone : {S : Type 0} → Pair → S × ℕ × ℕ → Split S
first_alone pair v = parted_at v.0 (v.1, v.2) (pair.second, 0)

abbrev pub second_alone : {S : Type 0} → Pair → S × ℕ × ℕ → Split S
second_alone pair w = parted_at w.0 (pair.first, 0) (w.1, w.2)

abbrev pub both_heads : {S : Type 0} → S × ℕ × ℕ → S × ℕ × ℕ → Split S
both_heads v w = parted_at v.0 (v.1, v.2) (w.1, w.2)

abbrev pub by_heads : {S : Type 0} → (S → S → Bool) → Pair → S × ℕ × ℕ → S × ℕ × ℕ → Split S
by_heads before pair v w =
    cond (before v.0 w.0) (first_alone pair v) (cond (before w.0 v.0) (second_alone pair w) (both_heads v w))

abbrev pub parted : {S : Type 0} → (S → S → Bool) → Pair → Option (S × ℕ × ℕ) → Option (S × ℕ × ℕ) → Option (Split S)
parted before pair None None = None
parted before pair None (Some w) = Some (second_alone pair w)
parted before pair (Some v) None = Some (first_alone pair v)
parted before pair (Some v) (Some w) = Some (by_heads before pair v w)

abbrev pub apart : {S : Type 0} → (S → S → Bool) → List (Vertex S) → Pair → Option (Split S)
apart before vs pair = parted before pair (option_map parts (look vs pair.first)) (option_map parts (look vs pair.second))

-- the new pairs have lower sums
abbrev pub Falls : {S : Type 0} → Pair → Option (Split S) → Type 0
Falls pair None = Unit {0}
Falls pair (Some s) = (sum s.outer < sum pair) × (sum s.inner < sum pair)
