-- What receiving answers, and what the shelf holds then.
use Rattle.std.specs.Prelude.{◌≡◌, ℕ, Bool, ◌⊎◌, List, [], length, Ok, Err, Result}
use Rattle.symbols.specs.Wire.{Travel}
use Rattle.ledger.specs.declared.Vertex.{Vertex}
use Rattle.ledger.specs.Lists.{Codes}
use Rattle.ledger.specs.Diagrams.{Good, Different}
use Rattle.ledger.specs.Ledger.{codes, Lays}
use Rattle.ledger.specs.Visits.{Visits}
use Rattle.wire.specs.Records.{records_in}
use Rattle.wire.specs.Written.{written}
use Rattle.wire.specs.declared.head.Head.{Head}
use Rattle.wire.specs.declared.faults.FaultyRecord.{FaultyRecord}
use Rattle.wire.specs.declared.faults.ReceiveFault.{ReceiveFault}
use Rattle.wire.specs.declared.faults.ReceiveFault.TheVariants.{Record, NotAsWritten, CodeTooLong, ShelfFull}
use Rattle.receiving.specs.Checks.{head_checked}
use Rattle.receiving.specs.Lengths.{Short, Long}

module _ {S : Type 0} (before : S → S → Bool) where
  -- a fault, and the vertices are as they were
  abbrev pub Refused : List (Vertex S) → ReceiveFault → Result ℕ ReceiveFault → List (Vertex S) → Type 0
  Refused vs fault r ws = (r ≡ Err fault) × (ws ≡ vs)

  -- laying down is refused for want of places alone
  abbrev pub OnlyFull : Result ℕ ReceiveFault → Type 0
  OnlyFull (Ok n) = Unit {0}
  OnlyFull (Err e) = e ≡ ShelfFull

  -- vertices ds with a root, which are as they should be or not: they are not; or they are, and a code is too long; or
  -- all codes are short, and the root's list is laid down
  abbrev pub Ends : ℕ → List (Vertex S) → Type 0 → Codes S → Result ℕ ReceiveFault → List (Vertex S) → Type 0
  Ends capacity vs Right t r ws =
      ((Right → ⊥) × Refused vs NotAsWritten r ws) ⊎
      ((Right × Long t × Refused vs CodeTooLong r ws) ⊎ (Right × Short t × Lays before capacity vs t r ws × OnlyFull r))

  -- the root is a number of the vertices, no two are equal, and they stand in the order of laying down
  abbrev pub InOrder : List (Vertex S) → ℕ → Type 0
  InOrder ds root = Good ds root × Different ds × Visits ds 0 root (length ds)

  -- the root is a number of the vertices, and the bytes are those that writing the root's list gives
  abbrev pub AsWritten : Travel S → List ℕ → List (Vertex S) → ℕ → Type 0
  AsWritten t bs ds root = Good ds root × (bs ≡ written before t (codes ds root))

  -- the records: the first faulty one is told; or they read as vertices
  abbrev pub ByRecords : Travel S → ℕ → List (Vertex S) → List ℕ → ℕ → Result (List (Vertex S)) FaultyRecord → Result ℕ ReceiveFault → List (Vertex S) → Type 0
  ByRecords t capacity vs bs root (Err e) r ws = Refused vs (Record e) r ws
  ByRecords t capacity vs bs root (Ok ds) r ws = Ends capacity vs (AsWritten t bs ds root) (codes ds root) r ws

  -- the head: the first check that fails is told; or the records follow
  abbrev pub ByHead : Travel S → ℕ → List (Vertex S) → List ℕ → Result (Head × List ℕ) ReceiveFault → Result ℕ ReceiveFault → List (Vertex S) → Type 0
  ByHead t capacity vs bs (Err e) r ws = Refused vs e r ws
  ByHead t capacity vs bs (Ok h) r ws = ByRecords t capacity vs bs h.0.root (records_in before t h.0.count [] h.1) r ws

  -- bytes are received over the vertices vs, which are ws then
  abbrev pub Receives : Travel S → ℕ → List (Vertex S) → List ℕ → Result ℕ ReceiveFault → List (Vertex S) → Type 0
  Receives t capacity vs bs r ws = ByHead t capacity vs bs (head_checked t.kind t.width capacity bs) r ws
