-- The checks of a dispatch's head and of its records, in their order: the first that fails answers.
use Rattle.std.specs.Prelude.{ℕ, ◌+◌, ◌*◌, Bool, cond, List, length, take, drop, Ok, Err, Result, ◌==◌, nat_le}
use Rattle.std.specs.Borrow.{Bor}
use Rattle.symbols.specs.Wire.{Travel}
use Rattle.ledger.specs.declared.Vertex.{Vertex}
use Rattle.wire.specs.Heads.{head_of}
use Rattle.wire.specs.Records.{record_of, zero_after}
use Rattle.wire.specs.declared.head.Head.{Head}
use Rattle.wire.specs.declared.faults.RecordFault.{RecordFault}
use Rattle.wire.specs.declared.faults.RecordFault.TheVariants.{LabelNotAfter}
use Rattle.wire.specs.declared.faults.ReceiveFault.{ReceiveFault}
use Rattle.wire.specs.declared.faults.ReceiveFault.TheVariants.{BadLength, OtherVersion, OtherKind, ShelfFull}

-- a head that was checked, with the bytes of its records
abbrev pub plain_head : Result (Head × Bor (List ℕ)) ReceiveFault → Result (Head × List ℕ) ReceiveFault
plain_head (Ok p) = Ok (p.0, p.1.now)
plain_head (Err e) = Err e

-- refused, unless the condition holds
abbrev pub unless : {X : Type 0} → Bool → ReceiveFault → Result X ReceiveFault → Result X ReceiveFault
unless b e r = cond b r (Err e)

-- the head of a dispatch for a shelf of this capacity
abbrev pub head_checked : ℕ → ℕ → ℕ → List ℕ → Result (Head × List ℕ) ReceiveFault
head_checked kind width capacity bs =
    unless (nat_le 14 (length bs)) BadLength
    (unless ((head_of bs).whole == length bs) BadLength
    (unless ((head_of bs).version == 1) OtherVersion
    (unless ((head_of bs).kind == kind) OtherKind
    (unless (length bs == 14 + (head_of bs).count * (width + 8)) BadLength
    (unless (nat_le (head_of bs).count capacity) ShelfFull
    (Ok (head_of bs, drop 14 bs)))))))

-- the bytes of record k
abbrev pub record_at : ℕ → List ℕ → ℕ → List ℕ
record_at width bs k = take (width + 8) (drop (k * (width + 8)) bs)

module _ {S : Type 0} where
  -- a record that was read, and its zero link's label, read from the records
  abbrev pub zero_checked : (S → S → Bool) → Travel S → List ℕ → Result (Vertex S) RecordFault → Result (Vertex S) RecordFault
  zero_checked before t bs (Err e) = Err e
  zero_checked before t bs (Ok v) = cond (zero_after before t bs v.label v.zero) (Ok v) (Err LabelNotAfter)

  -- record k of the records
  abbrev pub record_checked : (S → S → Bool) → Travel S → List ℕ → ℕ → Result (Vertex S) RecordFault
  record_checked before t bs k = zero_checked before t bs (record_of t (k + 2) (record_at t.width bs k))
