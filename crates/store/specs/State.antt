-- A store as its calls see it, and the checks that a call makes first.
use Rattle.std.specs.Prelude.{◌≡◌, ℕ, suc, ◌+◌, ◌*◌, Bool, cond, List, [], ◌∷◌, length, Some, None, Ok, Err, Option, Result, nat_lt}
use Rattle.ledger.specs.declared.Vertex.{Vertex}
use Rattle.memory.specs.declared.recall.Question.{Question}
use Rattle.memory.specs.declared.work.Place.{Place}
use Rattle.store.specs.declared.fault.Fault.{Fault}
use Rattle.store.specs.declared.fault.Fault.TheVariants.{NoSuchList, CodeTooLong, ShortOutput, LittleWork}

-- the vertices on the shelf, and the recall table
pub record State (S : Type 0) : Type 0 where
  pub vertices : List (Vertex S)
  pub table : Question → Option ℕ

abbrev pub state : {S : Type 0} → List (Vertex S) → (Question → Option ℕ) → State S
state vs t = record { vertices = vs; table = t }

-- what is seen of a store: how many vertices there may be, those that there are, and the recall table
pub record Fitted (S R : Type 0) : Type 0 where
  pub capacity : ℕ
  pub vertices : List (Vertex S)
  pub recall : R

-- its state, where `table` reads a recall table
abbrev pub seen : {S R : Type 0} → (R → Question → Option ℕ) → Fitted S R → State S
seen table f = state f.vertices (table f.recall)

-- no question has an entry
abbrev pub Forgotten : (Question → Option ℕ) → Type 0
Forgotten table = (q : Question) → table q ≡ None

-- one check, and those behind it: the first that fails answers
abbrev pub check : Bool → Fault → Option Fault → Option Fault
check fails fault behind = cond fails (Some fault) behind

-- the call's list numbers, counted from `place`, are good: up to used + 1
abbrev pub check_lists : {S : Type 0} → List (Vertex S) → ℕ → List ℕ → Option Fault → Option Fault
check_lists vs place [] behind = behind
check_lists vs place (n ∷ ns) behind = check (nat_lt (length vs + 1) n) (NoSuchList place) (check_lists vs (suc place) ns behind)

-- the code has at most 64 symbols
abbrev pub check_code : {S : Type 0} → List S → Option Fault → Option Fault
check_code code behind = check (nat_lt 64 (length code)) CodeTooLong behind

-- there are 2 × capacity + 256 places of work space
abbrev pub check_work : ℕ → List Place → Option Fault → Option Fault
check_work capacity work behind = check (nat_lt (length work) (2 * capacity + 256)) LittleWork behind

-- the output has room for 64 symbols
abbrev pub check_output : {S : Type 0} → List S → Option Fault → Option Fault
check_output out behind = check (nat_lt (length out) 64) ShortOutput behind

-- refused by a check, or this answer
abbrev pub answered : {A : Type 0} → Option Fault → A → Result A Fault
answered None a = Ok a
answered (Some fault) a = Err fault

-- refused by a check, and nothing changes; or what comes then
abbrev pub Checked : {A : Type 0} → Option Fault → Result A Fault → Type 0 → Type 0 → Type 0
Checked None r nothing_changes then = then
Checked (Some fault) r nothing_changes then = (r ≡ Err fault) × nothing_changes
