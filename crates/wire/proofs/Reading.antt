-- The records of formed vertices read as those vertices.
use Rattle.std.proofs.Common.{◌≡◌, ℕ, suc, ◌+◌, ◌/◌, ◌%◌, ◌^◌, ◌<◌, ◌≤◌, Bool, true, cond, ◌≢◌, List, [], ◌∷◌, ◌++◌, length, get_or, take, drop, Some, None, Ok, Err, Option, Result, sym, refl, ap, ◌∙◌, subst, append_assoc, append-nil, arith, length-append, take_at, get_or-append-add, drop_at, ne_eqb}
use lib.Seq.{get_or-append_seam}
use borrow.Author.Tests.{lt-leb}
use Rattle.symbols.specs.Order.{Order}
use Rattle.symbols.specs.Wire.{Travel, WireLaws}
use Rattle.ledger.specs.declared.Vertex.{Vertex}
use Rattle.ledger.specs.Diagrams.{look, Formed}
use Rattle.ledger.specs.Dispatch.{be4, records}
use Rattle.ledger.proofs.Ends.{nth_front, nth_last, length_snoc}
use Rattle.ledger.proofs.Drawn.{look_front}
use Rattle.wire.specs.Heads.{word_of, word}
use Rattle.wire.specs.Records.{record_bytes, linked, record_of, comes_before, checked, record_in, onward, records_in}
use Rattle.wire.specs.Back.{RecordsBack}
use Rattle.wire.specs.declared.faults.RecordFault.TheVariants.{LabelNotAfter}
use Rattle.wire.specs.declared.faults.FaultyRecord.{FaultyRecord}

word_back : (n : ℕ) → n < 2 ^ 32 → word_of (n / 16777216 % 256) (n / 65536 % 256) (n / 256 % 256) (n % 256) ≡ n
word_back n h =
    let a : n / 65536 ≡ n / 256 / 256 = omega arith in
    let b : n / 16777216 ≡ n / 65536 / 256 = omega arith in
    let c : n / 16777216 % 256 ≡ n / 16777216 = omega arith in
    omega arith

-- a number stands where its bytes were written
pub word_at : (front rest : List ℕ) (n i : ℕ) → length front ≡ i → n < 2 ^ 32 → word (front ++ (be4 n ++ rest)) i ≡ n
word_at front rest n i e small =
    let first : get_or (front ++ (be4 n ++ rest)) i 0 ≡ n / 16777216 % 256 = ap (λ k. get_or (front ++ (be4 n ++ rest)) k 0) (sym e) ∙ get_or-append_seam front _ _ 0 in
    let second : get_or (front ++ (be4 n ++ rest)) (i + 1) 0 ≡ n / 65536 % 256 = ap (λ k. get_or (front ++ (be4 n ++ rest)) (k + 1) 0) (sym e) ∙ get_or-append-add front (be4 n ++ rest) 1 0 in
    let third : get_or (front ++ (be4 n ++ rest)) (i + 2) 0 ≡ n / 256 % 256 = ap (λ k. get_or (front ++ (be4 n ++ rest)) (k + 2) 0) (sym e) ∙ get_or-append-add front (be4 n ++ rest) 2 0 in
    let fourth : get_or (front ++ (be4 n ++ rest)) (i + 3) 0 ≡ n % 256 = ap (λ k. get_or (front ++ (be4 n ++ rest)) (k + 3) 0) (sym e) ∙ get_or-append-add front (be4 n ++ rest) 3 0 in
    (λ j. word_of (first j) (second j) (third j) (fourth j)) ∙ word_back n small

module _ {S : Type 0} (before : S → S → Bool) (order : Order before) (t : Travel S) (laws : WireLaws t) where
  record_long : (v : Vertex S) → length (record_bytes t.bytes v) ≡ t.width + 8
  record_long v = length-append (t.bytes v.label) (be4 v.zero ++ be4 v.one) ∙ ap (λ n. n + 8) (laws.long v.label)

  record_back : (own : ℕ) (v : Vertex S) → v.zero < own → v.one < own → own < 2 ^ 32 → v.one ≢ 0 → record_of t own (record_bytes t.bytes v) ≡ Ok v
  record_back own v z o small some =
      let label = t.bytes v.label in
      let long = laws.long v.label in
      let label_is : t.reads (take t.width (record_bytes t.bytes v)) ≡ Ok v.label = ap t.reads (take_at label (be4 v.zero ++ be4 v.one) t.width long) ∙ laws.back v.label in
      let zero_is : word (record_bytes t.bytes v) t.width ≡ v.zero = word_at label (be4 v.one) v.zero t.width long (omega arith) in
      let one_is : word (record_bytes t.bytes v) (t.width + 4) ≡ v.one =
      ap (λ b. word b (t.width + 4)) (sym (append_assoc label (be4 v.zero) (be4 v.one))) ∙
      word_at (label ++ be4 v.zero) [] v.one (t.width + 4) (length-append label (be4 v.zero) ∙ ap (λ n. n + 4) long) (omega arith) in
      (λ j. linked own (zero_is j) (one_is j) (label_is j)) ∙ rw (lt-leb own v.zero z, lt-leb own v.one o, ne_eqb v.one 0 some) refl

  -- one record more
  next_in : (done : List (Vertex S)) (v : Vertex S) (vs : List (Vertex S)) → Formed before ((done ++ v ∷ []) ++ vs) → length done < 1000000 → record_in before t done (record_bytes t.bytes v) ≡ Ok v
  next_in done v vs f short =
      let at : look ((done ++ v ∷ []) ++ vs) (suc (suc (length done))) ≡ Some v = nth_front (done ++ v ∷ []) vs (length done) v (nth_last done v) in
      let z = f.zero_below (suc (suc (length done))) v at in
      let o = f.one_below (suc (suc (length done))) v at in
      let back = record_back (length done + 2) v (omega arith) (omega arith) (omega arith) (f.one_not_0 (suc (suc (length done))) v at) in
      ap (checked before done) back ∙ ap (λ b. cond b (Ok v) (Err LabelNotAfter)) (later (look done v.zero) refl at)
    where
      later : (there : Option (Vertex S)) → look done v.zero ≡ there → look ((done ++ v ∷ []) ++ vs) (suc (suc (length done))) ≡ Some v → comes_before before v.label (look done v.zero) ≡ true
      later None e at = ap (comes_before before v.label) e
      later (Some w) e at =
          ap (comes_before before v.label) e ∙
          f.later (suc (suc (length done))) v w at
          (look_front before order (done ++ v ∷ []) vs v.zero w (look_front before order done (v ∷ []) v.zero w e))

  records_on : (done vs : List (Vertex S)) → Formed before (done ++ vs) → length done + length vs ≤ 1000000 → records_in before t (length vs) done (records t.bytes vs) ≡ Ok (done ++ vs)
  records_on done [] f short = ap Ok (sym (append-nil done))
  records_on done (v ∷ vs) f short =
      let joined : records t.bytes (v ∷ vs) ≡ record_bytes t.bytes v ++ records t.bytes vs = sym (append_assoc (t.bytes v.label) (be4 v.zero ++ be4 v.one) (records t.bytes vs)) in
      let first : take (t.width + 8) (records t.bytes (v ∷ vs)) ≡ record_bytes t.bytes v = ap (take (t.width + 8)) joined ∙ take_at (record_bytes t.bytes v) (records t.bytes vs) (t.width + 8) (record_long v) in
      let rest : drop (t.width + 8) (records t.bytes (v ∷ vs)) ≡ records t.bytes vs = ap (drop (t.width + 8)) joined ∙ drop_at (record_bytes t.bytes v) (records t.bytes vs) (t.width + 8) (record_long v) in
      let g : Formed before ((done ++ v ∷ []) ++ vs) = subst (Formed before) (sym (append_assoc done (v ∷ []) vs)) f in
      let onwards : Vertex S → Result (List (Vertex S)) FaultyRecord = λ w. records_in before t (length vs) (done ++ w ∷ []) (drop (t.width + 8) (records t.bytes (v ∷ vs))) in
      ap (λ b. onward (length done) (record_in before t done b) onwards) first ∙
      ap (λ r. onward (length done) r onwards) (next_in done v vs g (omega arith)) ∙
      ap (records_in before t (length vs) (done ++ v ∷ [])) rest ∙
      records_on (done ++ v ∷ []) vs g (omega (arith, length_snoc done v)) ∙
      ap Ok (append_assoc done (v ∷ []) vs)

  pub records_back : RecordsBack before t
  records_back vs f short = records_on [] vs f (omega arith)
