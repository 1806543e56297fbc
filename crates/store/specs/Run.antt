-- Runs: any finite list of calls on one store from its fitting out on, refused ones included, each with any arguments
-- and any memory; and what is promised of every run.
use Rattle.std.specs.Prelude.{◌≡◌, ℕ, ◌≤◌, Bool, ◌↔◌, List, [], length, take, Some, Ok, Option, Result}
use Rattle.symbols.specs.Wire.{Travel}
use Rattle.ledger.specs.declared.Vertex.{Vertex}
use Rattle.ledger.specs.Diagrams.{Good, SameCodes, Reached, Counts, IsDiagram}
use Rattle.memory.specs.declared.work.Place.{Place}
use Rattle.store.specs.declared.fault.Fault.{Fault}
use Rattle.store.specs.State.{State, Forgotten}
use Rattle.store.specs.Calls.{Adds, Removes, Joins, Unders, Holds, Looks, CountsCodes, CountsVertices, Picks, ClearsOut, Writes}

-- the states that runs lead to. Where symbols travel, `travel` says how; a run of other symbols has no use for it.
pub data Run {S : Type 0} (before : S → S → Bool) (travel : Option (Travel S)) (capacity : ℕ) : State S → Type 0 where
  -- fitting out, whatever shelf and table held before: no vertex, no entry
  fitted_out : {s : State S} → capacity ≤ 1000000 → s.vertices ≡ [] → Forgotten s.table → Run before travel capacity s
  adds : {s' : State S} (s : State S) (list : ℕ) (code : List S) (work : List Place) (r : Result ℕ Fault) →
      Run before travel capacity s → Adds before capacity s list code work r s' → Run before travel capacity s'
  removes : {s' : State S} (s : State S) (list : ℕ) (code : List S) (work : List Place) (r : Result ℕ Fault) →
      Run before travel capacity s → Removes before capacity s list code work r s' → Run before travel capacity s'
  joins : {s' : State S} (s : State S) (rule first second : ℕ) (work : List Place) (r : Result ℕ Fault) →
      Run before travel capacity s → Joins before capacity s rule first second work r s' → Run before travel capacity s'
  clears_out : {s' : State S} (s : State S) (keep : List ℕ) (work : List Place) (r : Result ℕ Fault) (keep' : List ℕ) →
      Run before travel capacity s → ClearsOut before capacity s keep work r s' keep' → Run before travel capacity s'
  unders : {s : State S} (list : ℕ) (code : List S) (r : Result ℕ Fault) →
      Run before travel capacity s → Unders before capacity s list code r → Run before travel capacity s
  holds : {s : State S} (list : ℕ) (code : List S) (r : Result Bool Fault) →
      Run before travel capacity s → Holds before capacity s list code r → Run before travel capacity s
  looks : {s : State S} (n : ℕ) (r : Option (S × ℕ × ℕ)) →
      Run before travel capacity s → Looks before capacity s n r → Run before travel capacity s
  counts_codes : {s : State S} (list : ℕ) (work : List Place) (r : Result ℕ Fault) →
      Run before travel capacity s → CountsCodes before capacity s list work r → Run before travel capacity s
  counts_vertices : {s : State S} (list : ℕ) (work : List Place) (r : Result ℕ Fault) →
      Run before travel capacity s → CountsVertices before capacity s list work r → Run before travel capacity s
  picks : {s : State S} (list k : ℕ) (out : List S) (work : List Place) (r : Result ℕ Fault) (out' : List S) →
      Run before travel capacity s → Picks before capacity s list k out work r out' → Run before travel capacity s
  writes : {s : State S} (t : Travel S) (list : ℕ) (out : List ℕ) (work : List Place) (r : Result ℕ Fault) (out' : List ℕ) →
      travel ≡ Some t → Run before travel capacity s → Writes before capacity t s list out work r out' → Run before travel capacity s

-- a store that a run led to: its shelf is ready, and its state is that of the run
pub record Stands {S : Type 0} (before : S → S → Bool) (travel : Option (Travel S)) (capacity : ℕ) (Ready : Type 0) (s : State S) : Type 0 where
  pub ready : Ready
  pub run : Run before travel capacity s

-- two good numbers are equal exactly when they have the same codes
abbrev pub NumbersAreLists : {S : Type 0} → List (Vertex S) → Type 0
NumbersAreLists vs = (m n : ℕ) → Good vs m → Good vs n → (m ≡ n) ↔ SameCodes vs m vs n

-- every diagram of a good number's codes has at least as many vertices as are reached from that number
abbrev pub NoneSmaller : {S : Type 0} → (S → S → Bool) → List (Vertex S) → Type 0
NoneSmaller {S} before vs =
    (n : ℕ) → Good vs n → (reached : ℕ) → Counts (Reached vs n) reached →
    (ds : List (Vertex S)) → IsDiagram before ds → (d : ℕ) → Good ds d → SameCodes vs n ds d → reached ≤ length ds

-- a list's number is the list, after every run of a store of this capacity
abbrev pub NumberIsList : {S : Type 0} → (S → S → Bool) → ℕ → Type 0
NumberIsList {S} before capacity =
    (travel : Option (Travel S)) (s : State S) → Run before travel capacity s →
    NumbersAreLists s.vertices × NoneSmaller before s.vertices

-- a list written from one store and a list written from another, both accepted, give equal bytes, the whole dispatches
-- compared, exactly when they have the same codes; whatever the stores' shelves, tables, capacities and runs
abbrev pub WrittenAlike : {S : Type 0} → (S → S → Bool) → Travel S → Type 0
WrittenAlike {S} before travel =
    (capacity capacity' : ℕ) (s s' : State S) → Run before (Some travel) capacity s → Run before (Some travel) capacity' s' →
    (m n : ℕ) (out out' : List ℕ) (work work' : List Place) (length length' : ℕ) (exit exit' : List ℕ) →
    Writes before capacity travel s m out work (Ok length) exit → Writes before capacity' travel s' n out' work' (Ok length') exit' →
    (take length exit ≡ take length' exit') ↔ SameCodes s.vertices m s'.vertices n
