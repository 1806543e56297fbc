-- Lists are plain finite sets of codes. `Codes` takes a list apart, and is only a means: what is said here speaks of
-- which codes are in a list.
use Rattle.std.specs.Prelude.{◌≡◌, ℕ, ◌/◌, ◌%◌, Bool, true, false, ◌⊎◌, ◌↔◌, List, [], ◌∷◌, ◌++◌, length, Some, ◌≢◌}
use mathlib.Core.List.{Memᴰ}
use Rattle.std.specs.List.{slice_get}
use Rattle.symbols.specs.Order.{Order}
use Rattle.ledger.specs.Lists.{Codes, none, blank, begun, Member, Proper, SameMembers}
use Rattle.ledger.specs.Diagrams.{Counts}
use Rattle.ledger.specs.Operations.{has, takes, join, added, removed, under}
use Rattle.ledger.specs.Ordered.{code_before, ordered, Ascending}

-- a list is its codes, and all finite collections of codes are lists
pub record AreSets {S : Type 0} (before : S → S → Bool) : Type 0 where
  pub same : (t u : Codes S) → Proper before t → Proper before u → SameMembers t u → t ≡ u
  pub every : (cs : List (List S)) → (t : Codes S) × Proper before t × ((c : List S) → Member t c ↔ Memᴰ c cs)
  -- list 0 has no code, and list 1 the empty code alone
  pub list_0 : (c : List S) → Member {S = S} none c → ⊥
  pub list_1 : (c : List S) → Member {S = S} blank c ↔ (c ≡ [])

-- every other list falls apart into what begins with its head and what does not
pub record FallsApart {S : Type 0} (before : S → S → Bool) (a : S) (outer inner : Codes S) : Type 0 where
  -- some code begins with the head
  pub head : (rest : List S) × Member (begun a outer inner) (a ∷ rest)
  -- and none with an earlier symbol
  pub earliest : (s : S) (rest : List S) → Member (begun a outer inner) (s ∷ rest) → before s a ≡ false
  -- the inner list is what remains of the codes that begin with the head, and the outer list is all other codes
  pub inside : (rest : List S) → Member inner rest ↔ Member (begun a outer inner) (a ∷ rest)
  pub outside : (c : List S) → Member outer c ↔ (Member (begun a outer inner) c × ((rest : List S) → c ≢ a ∷ rest))
  -- both are lists again
  pub outer_proper : Proper before outer
  pub inner_proper : Proper before inner

abbrev pub TakenApart : {S : Type 0} → (S → S → Bool) → Type 0
TakenApart {S} before = (a : S) (outer inner : Codes S) → Proper before (begun a outer inner) → FallsApart before a outer inner

-- taken by a rule from two sets: 1 takes codes only in the first, 2 only in the second, 4 those in both
abbrev pub Taken : ℕ → Type 0 → Type 0 → Type 0
Taken rule P Q =
    ((rule % 2 ≡ 1) × P × (Q → ⊥)) ⊎ (((rule / 2 % 2 ≡ 1) × (P → ⊥) × Q) ⊎ ((rule / 4 % 2 ≡ 1) × P × Q))

-- the test is membership, and a join takes what its rule says
pub record Joins {S : Type 0} (before : S → S → Bool) (t u : Codes S) : Type 0 where
  pub test : (c : List S) → (has before t c ≡ true) ↔ Member t c
  pub by_test : (f : Bool → Bool → Bool) → f false false ≡ false →
      Proper before (join before f t u) × ((c : List S) → Member (join before f t u) c ↔ (f (has before t c) (has before u c) ≡ true))
  pub by_rule : (rule : ℕ) → Proper before (join before (takes rule) t u) × ((c : List S) → Member (join before (takes rule) t u) c ↔ Taken rule (Member t c) (Member u c))

abbrev pub Joining : {S : Type 0} → (S → S → Bool) → Type 0
Joining {S} before = (t u : Codes S) → Proper before t → Proper before u → Joins before t u

-- a list with a code, without it, and what remains under it
pub record ByCode {S : Type 0} (before : S → S → Bool) (t : Codes S) (c : List S) : Type 0 where
  pub with : Proper before (added before t c) × ((d : List S) → Member (added before t c) d ↔ (Member t d ⊎ (d ≡ c)))
  pub without : Proper before (removed before t c) × ((d : List S) → Member (removed before t c) d ↔ (Member t d × (d ≢ c)))
  pub remaining : Proper before (under before t c) × ((d : List S) → Member (under before t c) d ↔ Member t (c ++ d))

abbrev pub Changing : {S : Type 0} → (S → S → Bool) → Type 0
Changing {S} before = (t : Codes S) → Proper before t → (c : List S) → ByCode before t c

-- the codes in their order: each once, as many as the count; pick k is the code with just k before it
pub record InOrder {S : Type 0} (before : S → S → Bool) (t : Codes S) : Type 0 where
  pub ascending : Ascending before (ordered t)
  pub members : (c : List S) → Memᴰ c (ordered t) ↔ Member t c
  pub count : Counts (Member t) (length (ordered t))
  pub pick : (k : ℕ) (c : List S) →
      (slice_get (ordered t) k ≡ Some c) ↔ (Member t c × Counts (λ d. Member t d × (code_before before d c ≡ true)) k)

pub record Ordering {S : Type 0} (before : S → S → Bool) : Type 0 where
  pub codes_ordered : Order (code_before before)
  pub each : (t : Codes S) → Proper before t → InOrder before t
