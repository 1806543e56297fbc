-- Writing and receiving are inverse.
use Rattle.std.specs.Prelude.{◌≡◌, ℕ, ◌≤◌, Bool, List, length, Ok, Result}
use Rattle.symbols.specs.Wire.{Travel}
use Rattle.ledger.specs.declared.Vertex.{Vertex}
use Rattle.ledger.specs.Lists.{Codes, Proper}
use Rattle.ledger.specs.Ledger.{Lays, fresh}
use Rattle.wire.specs.Written.{written}
use Rattle.wire.specs.declared.faults.ReceiveFault.{ReceiveFault}
use Rattle.receiving.specs.Lengths.{Short}
use Rattle.receiving.specs.Receives.{Receives, OnlyFull}

-- bytes that are accepted are what writing some list gives, with no code over 64, and that list is laid down
abbrev pub OnlyWritten : {S : Type 0} → (S → S → Bool) → Travel S → Type 0
OnlyWritten {S} before t =
    (capacity : ℕ) (vs : List (Vertex S)) (bs : List ℕ) (n : ℕ) (ws : List (Vertex S)) → Receives before t capacity vs bs (Ok n) ws →
    (u : Codes S) × Proper before u × Short u × (bs ≡ written before t u) × Lays {F = ReceiveFault} before capacity vs u (Ok n) ws

-- what writing a list with no code over 64 gives, of no more vertices than the capacity, is refused for want of places
-- alone, and else the list is laid down
abbrev pub TakesWritten : {S : Type 0} → (S → S → Bool) → Travel S → Type 0
TakesWritten {S} before t =
    (capacity : ℕ) → capacity ≤ 1000000 → (vs : List (Vertex S)) (u : Codes S) → Proper before u → Short u → length (fresh before u).drawn ≤ capacity →
    (r : Result ℕ ReceiveFault) (ws : List (Vertex S)) → Receives before t capacity vs (written before t u) r ws → Lays before capacity vs u r ws × OnlyFull before r
