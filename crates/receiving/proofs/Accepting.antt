-- What is accepted was written.
use Rattle.std.proofs.Common.{◌≡◌, ℕ, zero, suc, ◌+◌, ◌*◌, ◌≤◌, Bool, List, [], length, Ok, Err, Result, sym, refl, ap, ◌∙◌, subst, inl, inr, arith}
use Rattle.symbols.specs.Order.{Order}
use Rattle.symbols.specs.Wire.{Travel}
use Rattle.ledger.specs.declared.Vertex.{Vertex}
use Rattle.ledger.specs.Lists.{Codes, Proper}
use Rattle.ledger.specs.Diagrams.{Formed}
use Rattle.ledger.specs.Ledger.{codes, Lays}
use Rattle.ledger.proofs.Forming.{formed_proper}
use Rattle.wire.specs.Records.{records_in}
use Rattle.wire.specs.Written.{written}
use Rattle.wire.specs.declared.head.Head.{Head}
use Rattle.wire.specs.declared.faults.RecordFault.{RecordFault}
use Rattle.wire.specs.declared.faults.FaultyRecord.{FaultyRecord}
use Rattle.wire.specs.declared.faults.ReceiveFault.{ReceiveFault}
use Rattle.receiving.specs.Checks.{head_checked, record_checked}
use Rattle.receiving.specs.Lengths.{Short}
use Rattle.receiving.specs.Reads.{ReadAs, rows_of, rows_in}
use Rattle.receiving.specs.Receives.{AsWritten, Ends, ByRecords, ByHead, Receives}
use Rattle.receiving.specs.Statements.{OnlyWritten}
use Rattle.receiving.proofs.Checking.{err_ok, Reading, reading_none, reading_stop, reading_more, reading_all}
use Rattle.receiving.proofs.Dispatched.{head_right, head_few}

module _ {S : Type 0} (before : S → S → Bool) (order : Order before) where
  -- records that read as vertices were read one by one
  read_on : (t : Travel S) (bs : List ℕ) (n : ℕ) (ds : List (Vertex S)) → records_in before t n [] bs ≡ Ok ds → (place : ℕ) → place ≤ n → Reading before order t bs n place
  read_on t bs n ds ok zero h = reading_none before order t bs n
  read_on t bs n ds ok (suc place) h = by (record_checked before t bs place) refl (read_on t bs n ds ok place (omega arith))
    where
      next : Reading before order t bs n (place + 1) → Reading before order t bs n (suc place)
      next R = let e : place + 1 ≡ suc place = omega arith in rw e at R

      by : (r : Result (Vertex S) RecordFault) → record_checked before t bs place ≡ r → Reading before order t bs n place → Reading before order t bs n (suc place)
      by (Ok v) e R = next (reading_more before order t bs n place (omega arith) R v (sym e))
      by (Err f) e R = absurd (err_ok (reading_stop before order t bs n place (omega arith) R f (sym e)) ok)

  pub read_right : (t : Travel S) (bs : List ℕ) (n : ℕ) (ds : List (Vertex S)) → records_in before t n [] bs ≡ Ok ds → length bs ≡ n * (t.width + 8) → ReadAs t bs ds × Formed before ds × (length ds ≡ n)
  read_right t bs n ds ok long =
      let W = (reading_all before order t bs n n refl long (read_on t bs n ds ok n (omega arith))).0 in
      let is : rows_in before t n bs ≡ ds = ap rows_of ok in
      (subst (ReadAs t bs) is W.reads, subst (Formed before) is W.formed, sym (ap length is) ∙ W.many)

  module _ (t : Travel S) where
    pub only_written : OnlyWritten before t
    only_written capacity vs bs n ws = by_head (head_checked t.kind t.width capacity bs) refl
      where
        ends : (h : Head) (rest : List ℕ) → head_checked t.kind t.width capacity bs ≡ Ok (h, rest) → (ds : List (Vertex S)) → records_in before t h.count [] rest ≡ Ok ds →
            Ends before capacity vs (AsWritten before t bs ds h.root) (codes ds h.root) (Ok n) ws → (u : Codes S) × Proper before u × Short u × (bs ≡ written before t u) × Lays {F = ReceiveFault} before capacity vs u (Ok n) ws
        ends h rest p ds q (inl x) = absurd (err_ok x.1.0 refl)
        ends h rest p ds q (inr (inl x)) = absurd (err_ok x.2.0 refl)
        ends h rest p ds q (inr (inr x)) =
            let few = head_few t.kind t.width capacity bs h rest (head_right t.kind t.width capacity bs h rest p) in
            let f = (read_right t rest h.count ds q few.1).1 in
            (codes ds h.root, formed_proper before order ds f h.root x.0.0, x.1, x.0.1, x.2)

        by_records : (h : Head) (rest : List ℕ) → head_checked t.kind t.width capacity bs ≡ Ok (h, rest) → (y : Result (List (Vertex S)) FaultyRecord) → records_in before t h.count [] rest ≡ y →
            ByRecords before t capacity vs bs h.root y (Ok n) ws → (u : Codes S) × Proper before u × Short u × (bs ≡ written before t u) × Lays {F = ReceiveFault} before capacity vs u (Ok n) ws
        by_records h rest p (Err e) q x = absurd (err_ok x.0 refl)
        by_records h rest p (Ok ds) q x = ends h rest p ds q x

        by_head : (y : Result (Head × List ℕ) ReceiveFault) → head_checked t.kind t.width capacity bs ≡ y →
            ByHead before t capacity vs bs y (Ok n) ws → (u : Codes S) × Proper before u × Short u × (bs ≡ written before t u) × Lays {F = ReceiveFault} before capacity vs u (Ok n) ws
        by_head (Err e) p x = absurd (err_ok x.0 refl)
        by_head (Ok h) p x = by_records h.0 h.1 p (records_in before t h.0.count [] h.1) refl x

-- a refusal leaves the vertices
module _ {S : Type 0} (before : S → S → Bool) (t : Travel S) (capacity : ℕ) (vs : List (Vertex S)) (bs : List ℕ) (e : ReceiveFault) (ws : List (Vertex S)) where
  ends_same : (right : Type 0) (u : Codes S) → Ends before capacity vs right u (Err e) ws → ws ≡ vs
  ends_same right u (inl x) = x.1.1
  ends_same right u (inr (inl x)) = x.2.1
  ends_same right u (inr (inr x)) = x.2.1

  records_same : (root : ℕ) (y : Result (List (Vertex S)) FaultyRecord) → ByRecords before t capacity vs bs root y (Err e) ws → ws ≡ vs
  records_same root (Err f) x = x.1
  records_same root (Ok ds) x = ends_same _ _ x

  head_same : (y : Result (Head × List ℕ) ReceiveFault) → ByHead before t capacity vs bs y (Err e) ws → ws ≡ vs
  head_same (Err f) x = x.1
  head_same (Ok h) x = records_same h.0.root (records_in before t h.0.count [] h.1) x

  pub refused_same : Receives before t capacity vs bs (Err e) ws → ws ≡ vs
  refused_same = head_same (head_checked t.kind t.width capacity bs)
