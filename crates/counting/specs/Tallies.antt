-- How many codes a list has, and what a place of work space keeps of that.
use Rattle.std.specs.Prelude.{◌≡◌, ℕ, ◌^◌, ◌<◌, ◌≤◌, cond, not, List, length, Some, None, Option, ◌==◌, slice_index_or}
use Rattle.ledger.specs.declared.Vertex.{Vertex}
use Rattle.ledger.specs.Lists.{Codes}
use Rattle.ledger.specs.Ledger.{codes}
use Rattle.ledger.specs.Ordered.{ordered, blank_in}
use Rattle.memory.specs.declared.work.Place.{Place}
use Rattle.counting.specs.declared.tallying.Tally.{Tally}

-- an answer to how many: the number, or nothing where it is 2^64 or more
abbrev pub Counted : ℕ → Option ℕ → Type 0
Counted n None = 2 ^ 64 ≤ n
Counted n (Some c) = c ≡ n

-- a tally tells of a list how many codes it has, and whether it has the empty code
pub record Tells {S : Type 0} (t : Codes S) (r : Tally) : Type 0 where
  pub many : Counted (length (ordered t)) r.codes
  pub blank : r.empty ≡ blank_in t

-- what a place keeps: state 0 says that the count is in it, and number is how many empty codes there are
abbrev pub held : Place → Tally
held p = record { codes = cond (p.state == 0) (Some p.count) None; empty = not (p.number == 0) }

abbrev pub vacant : Place
vacant = record { state = 0; list = 0; other = 0; number = 0; count = 0 }

-- the places below n keep the tallies of the lists below n
abbrev pub Tallied : {S : Type 0} → List (Vertex S) → ℕ → List Place → Type 0
Tallied vs n work = (k : ℕ) → k < n → Tells (codes vs k) (held (slice_index_or work k vacant))
