-- What the bytes of records say, and which fault comes first.
use Rattle.std.specs.Prelude.{ℕ, zero, suc, ◌+◌, ◌*◌, Bool, true, false, cond, ◌||◌, List, [], ◌∷◌, ◌++◌, length, take, drop, Some, None, Ok, Err, Option, Result, ◌==◌, nat_le}
use Rattle.symbols.specs.declared.SymbolFault.{SymbolFault}
use Rattle.symbols.specs.Wire.{Travel}
use Rattle.ledger.specs.declared.Vertex.{Vertex}
use Rattle.ledger.specs.Diagrams.{look}
use Rattle.ledger.specs.Dispatch.{be4}
use Rattle.wire.specs.Heads.{word}
use Rattle.wire.specs.declared.faults.RecordFault.{RecordFault}
use Rattle.wire.specs.declared.faults.RecordFault.TheVariants.{Label, LinkNotBelow, OneLinkZero, LabelNotAfter}
use Rattle.wire.specs.declared.faults.FaultyRecord.{FaultyRecord}

module _ {S : Type 0} where
  -- the bytes of a record: its label, then its links
  abbrev pub record_bytes : (S → List ℕ) → Vertex S → List ℕ
  record_bytes bytes v = bytes v.label ++ (be4 v.zero ++ be4 v.one)

  -- a record whose label is read, by its two links: both are below its own number, and the one link is not 0
  abbrev pub linked : ℕ → ℕ → ℕ → Result S SymbolFault → Result (Vertex S) RecordFault
  linked own low high (Err e) = Err (Label e)
  linked own low high (Ok s) =
      cond (nat_le own low || nat_le own high) (Err LinkNotBelow) (cond (high == 0) (Err OneLinkZero) (Ok (record { label = s; zero = low; one = high })))

  -- the record of the vertex `own`
  abbrev pub record_of : Travel S → ℕ → List ℕ → Result (Vertex S) RecordFault
  record_of t own bs = linked own (word bs t.width) (word bs (t.width + 4)) (t.reads (take t.width bs))

  -- a label comes before another, if there is another
  abbrev pub comes_before : (S → S → Bool) → S → Option (Vertex S) → Bool
  comes_before before a None = true
  comes_before before a (Some w) = before a w.label

  -- and its label comes before that of its zero link, where that is one of the vertices vs
  abbrev pub checked : (S → S → Bool) → List (Vertex S) → Result (Vertex S) RecordFault → Result (Vertex S) RecordFault
  checked before vs (Err e) = Err e
  checked before vs (Ok v) = cond (comes_before before v.label (look vs v.zero)) (Ok v) (Err LabelNotAfter)

  -- the record after those of the vertices vs
  abbrev pub record_in : (S → S → Bool) → Travel S → List (Vertex S) → List ℕ → Result (Vertex S) RecordFault
  record_in before t vs bs = checked before vs (record_of t (length vs + 2) bs)

  -- a record that is right leaves the others to be read; a faulty one ends it, with its place
  abbrev pub onward : ℕ → Result (Vertex S) RecordFault → (Vertex S → Result (List (Vertex S)) FaultyRecord) → Result (List (Vertex S)) FaultyRecord
  onward place (Ok v) rest = rest v
  onward place (Err e) rest = Err (record { place = place; fault = e })

  -- n records more, after those of the vertices vs, first to last
  abbrev pub records_in : (S → S → Bool) → Travel S → ℕ → List (Vertex S) → List ℕ → Result (List (Vertex S)) FaultyRecord
  records_in before t zero vs bs = Ok vs
  records_in before t (suc n) vs bs =
      onward (length vs) (record_in before t vs (take (t.width + 8) bs)) (λ v. records_in before t n (vs ++ v ∷ []) (drop (t.width + 8) bs))

  -- what the label of record k reads as
  abbrev pub label_read : Travel S → List ℕ → ℕ → Result S SymbolFault
  label_read t bs k = t.reads (take t.width (drop (k * (t.width + 8)) bs))

  abbrev pub before_read : (S → S → Bool) → S → Result S SymbolFault → Bool
  before_read before a (Ok b) = before a b
  before_read before a (Err e) = false

  -- a label comes before that of a zero link, read from the records, where the zero link is a vertex
  abbrev pub zero_after : (S → S → Bool) → Travel S → List ℕ → S → ℕ → Bool
  zero_after before t bs a zero = true
  zero_after before t bs a (suc zero) = true
  zero_after before t bs a (suc (suc k)) = before_read before a (label_read t bs k)
