-- What was written reads back, and is taken.
use Rattle.std.proofs.Common.{◌≡◌, ℕ, suc, ◌+◌, ◌*◌, ◌/◌, ◌%◌, ◌^◌, ◌<◌, ◌≤◌, Bool, true, cond, ◌||◌, eqb, leb, ◌≢◌, List, [], ◌∷◌, ◌++◌, length, get_or, take, drop, Some, None, Ok, Err, Option, Result, sym, refl, ap, ◌∙◌, subst, inl, inr, append_assoc, append-nil, mod-eq_of_lt, suc-mul, mul-le-mul, zero-mul, arith, length-append, take_at, get_or-append-add, drop_at}
use mathlib.Core.Path.{subst⁻¹}
use Rattle.std.proofs.lemmas.Bool.{le-leb, lt-leb, eq-eqb, ne_eqb, or_from, cond-true, cond-false}
use Rattle.std.specs.List.{slice_get}
use Rattle.symbols.specs.Order.{Order}
use Rattle.symbols.specs.Wire.{Travel, WireLaws}
use Rattle.ledger.specs.declared.Vertex.{Vertex}
use Rattle.ledger.specs.Diagrams.{look, Formed, Good}
use Rattle.ledger.specs.Dispatch.{be4, records, dispatch}
use Rattle.ledger.specs.Ledger.{Lays, fresh}
use Rattle.ledger.proofs.Drawn.{look_front}
use Rattle.ledger.proofs.Attaining.{written}
use Rattle.wire.specs.Heads.{word_of, word, head_of}
use Rattle.wire.specs.Records.{linked, record_of, comes_before, checked, record_in, onward, records_in}
use Rattle.wire.specs.declared.head.Head.{Head}
use Rattle.wire.specs.declared.faults.RecordFault.TheVariants.{LinkNotBelow, OneLinkZero, LabelNotAfter}
use Rattle.wire.specs.declared.faults.ReceiveFault.{ReceiveFault}
use Rattle.wire.specs.declared.faults.ReceiveFault.TheVariants.{BadLength, OtherKind, ShelfFull}
use Rattle.receiving.specs.Checks.{unless, head_checked}
use Rattle.receiving.specs.Receives.{Ends, ByRecords, ByHead, OnlyFull}
use Rattle.receiving.specs.Statements.{TakesWritten}

-- a number from its four bytes, by the quotients between them
from_quotients : (n a b c : ℕ) → a ≡ n / 256 → b ≡ n / 65536 → c ≡ n / 16777216 → n < 2 ^ 32 → word_of (c % 256) (b % 256) (a % 256) (n % 256) ≡ n
from_quotients n a b c ea eb ec h =
    let below : c < 256 = omega arith in
    let by_a : b ≡ a / 256 = omega arith in
    let by_b : c ≡ b / 256 = omega arith in
    let p : c % 256 ≡ c = mod-eq_of_lt below in
    let q : b ≡ c * 256 + b % 256 = omega arith in
    let r : a ≡ b * 256 + a % 256 = omega arith in
    let s : n ≡ a * 256 + n % 256 = omega arith in
    glue (c % 256) (b % 256) (a % 256) (n % 256) c b a n p q r s
  where
    glue : (w x y z c b a n : ℕ) → w ≡ c → b ≡ c * 256 + x → a ≡ b * 256 + y → n ≡ a * 256 + z → word_of w x y z ≡ n
    glue w x y z c b a n p q r s = omega arith

pub word_be4 : (n : ℕ) → n < 2 ^ 32 → word_of (n / 16777216 % 256) (n / 65536 % 256) (n / 256 % 256) (n % 256) ≡ n
word_be4 n h = from_quotients n (n / 256) (n / 65536) (n / 16777216) refl refl refl h

-- a number behind others
word_at : (p q : List ℕ) (w i : ℕ) → length p ≡ w → word (p ++ q) (w + i) ≡ word q i
word_at p q w i e =
    let a : get_or (p ++ q) (w + i) 0 ≡ get_or q i 0 = at i in
    let q1 : w + i + 1 ≡ w + (i + 1) = omega arith in
    let q2 : w + i + 2 ≡ w + (i + 2) = omega arith in
    let q3 : w + i + 3 ≡ w + (i + 3) = omega arith in
    let b : get_or (p ++ q) (w + i + 1) 0 ≡ get_or q (i + 1) 0 = ap (λ n. get_or (p ++ q) n 0) q1 ∙ at (i + 1) in
    let c : get_or (p ++ q) (w + i + 2) 0 ≡ get_or q (i + 2) 0 = ap (λ n. get_or (p ++ q) n 0) q2 ∙ at (i + 2) in
    let d : get_or (p ++ q) (w + i + 3) 0 ≡ get_or q (i + 3) 0 = ap (λ n. get_or (p ++ q) n 0) q3 ∙ at (i + 3) in
    λ x. word_of (a x) (b x) (c x) (d x)
  where
    at : (n : ℕ) → get_or (p ++ q) (w + n) 0 ≡ get_or q n 0
    at n = ap (λ m. get_or (p ++ q) (m + n) 0) (sym e) ∙ get_or-append-add p q n 0

module _ {S : Type 0} (before : S → S → Bool) (order : Order before) (t : Travel S) (laws : WireLaws t) where
  abbrev one_record : Vertex S → List ℕ
  one_record v = t.bytes v.label ++ (be4 v.zero ++ be4 v.one)

  one_long : (v : Vertex S) → length (one_record v) ≡ t.width + 8
  one_long v = let l = laws.long v.label in let a = length-append (t.bytes v.label) (be4 v.zero ++ be4 v.one) in omega arith

  records_long : (vs : List (Vertex S)) → length (records t.bytes vs) ≡ length vs * (t.width + 8)
  records_long [] = sym (zero-mul (t.width + 8))
  records_long (v ∷ vs) =
      let e = append_assoc (t.bytes v.label) (be4 v.zero ++ be4 v.one) (records t.bytes vs) in
      let a = ap length (sym e) ∙ length-append (one_record v) (records t.bytes vs) in
      let o = one_long v in
      let r = records_long vs in
      let m = suc-mul (length vs) (t.width + 8) in
      omega arith

  record_reads : (own : ℕ) (v : Vertex S) → v.zero < 2 ^ 32 → v.one < 2 ^ 32 → v.zero < own → v.one < own → v.one ≢ 0 → record_of t own (one_record v) ≡ Ok v
  record_reads own v fz fo lz lo nz =
      let l = laws.long v.label in
      let q : t.width ≡ t.width + 0 = omega arith in
      let low : word (one_record v) t.width ≡ v.zero = ap (word (one_record v)) q ∙ word_at (t.bytes v.label) (be4 v.zero ++ be4 v.one) t.width 0 l ∙ word_be4 v.zero fz in
      let high : word (one_record v) (t.width + 4) ≡ v.one = word_at (t.bytes v.label) (be4 v.zero ++ be4 v.one) t.width 4 l ∙ word_be4 v.one fo in
      let label : t.reads (take t.width (one_record v)) ≡ Ok v.label = ap t.reads (take_at (t.bytes v.label) (be4 v.zero ++ be4 v.one) t.width l) ∙ laws.back v.label in
      (λ i. linked own (low i) (high i) (label i)) ∙
      cond-false (leb own v.zero || leb own v.one) (Err LinkNotBelow) (cond (eqb v.one 0) (Err OneLinkZero) (Ok v)) (or_from (leb own v.zero) (leb own v.one) (lt-leb own v.zero lz) (lt-leb own v.one lo)) ∙
      cond-false (eqb v.one 0) (Err OneLinkZero) (Ok v) (ne_eqb v.one 0 nz)

  -- records of formed vertices read as these
  records_read : (es vs : List (Vertex S)) → Formed before (vs ++ es) → length (vs ++ es) ≤ 1000000 → records_in before t (length es) vs (records t.bytes es) ≡ Ok (vs ++ es)
  records_read [] vs f short = ap Ok (sym (append-nil vs))
  records_read (v ∷ es) vs f short =
      let two : length vs + 2 ≡ suc (suc (length vs)) = omega arith in
      let many = length-append vs (v ∷ es) in
      let lz = f.zero_below (suc (suc (length vs))) v here in
      let lo = f.one_below (suc (suc (length vs))) v here in
      let nz = f.one_not_0 (suc (suc (length vs))) v here in
      let whole : records t.bytes (v ∷ es) ≡ one_record v ++ records t.bytes es = sym (append_assoc (t.bytes v.label) (be4 v.zero ++ be4 v.one) (records t.bytes es)) in
      let first : take (t.width + 8) (records t.bytes (v ∷ es)) ≡ one_record v = ap (take (t.width + 8)) whole ∙ take_at (one_record v) (records t.bytes es) (t.width + 8) (one_long v) in
      let after : drop (t.width + 8) (records t.bytes (v ∷ es)) ≡ records t.bytes es = ap (drop (t.width + 8)) whole ∙ drop_at (one_record v) (records t.bytes es) (t.width + 8) (one_long v) in
      let read : record_in before t vs (take (t.width + 8) (records t.bytes (v ∷ es))) ≡ Ok v =
      ap (record_in before t vs) first ∙ ap (checked before vs) (record_reads (length vs + 2) v (omega arith) (omega arith) (omega arith) (omega arith) nz) ∙
      cond-true (comes_before before v.label (look vs v.zero)) (Ok v) (Err LabelNotAfter) (comes (look vs v.zero) refl) in
      let moved : (vs ++ v ∷ []) ++ es ≡ vs ++ (v ∷ es) = append_assoc vs (v ∷ []) es in
      ap (λ r. onward (length vs) r (λ w. records_in before t (length es) (vs ++ w ∷ []) (drop (t.width + 8) (records t.bytes (v ∷ es))))) read ∙
      ap (records_in before t (length es) (vs ++ v ∷ [])) after ∙
      records_read es (vs ++ v ∷ []) (subst⁻¹ (Formed before) moved f) (subst⁻¹ (λ xs. length xs ≤ 1000000) moved short) ∙
      ap Ok moved
    where
      at_end : (xs : List (Vertex S)) → slice_get (xs ++ (v ∷ es)) (length xs) ≡ Some v
      at_end [] = refl
      at_end (x ∷ xs) = at_end xs

      here : look (vs ++ (v ∷ es)) (suc (suc (length vs))) ≡ Some v
      here = at_end vs

      comes : (o : Option (Vertex S)) → look vs v.zero ≡ o → comes_before before v.label (look vs v.zero) ≡ true
      comes None e = ap (comes_before before v.label) e
      comes (Some w) e = ap (comes_before before v.label) e ∙ f.later (suc (suc (length vs))) v w here (look_front before order vs (v ∷ es) v.zero w e)

  -- the head of what is written
  head_passes : (capacity root : ℕ) (ds : List (Vertex S)) → length ds ≤ capacity → capacity ≤ 1000000 → root < 2 ^ 32 →
      head_checked t.kind t.width capacity (dispatch t.kind t.width t.bytes (record { drawn = ds; root = root })) ≡
      Ok (record { whole = 14 + length ds * (t.width + 8); version = 1; kind = t.kind; count = length ds; root = root }, records t.bytes ds)
  head_passes capacity root ds few small fits =
      let bs = dispatch t.kind t.width t.bytes (record { drawn = ds; root = root }) in
      let n = length ds in
      let w8 = laws.few in
      let big = mul-le-mul {n₁ = length ds} {m₁ = t.width + 8} {n₂ = 1000000} {m₂ = 16} (omega arith) (omega arith) in
      let rl = records_long ds in
      let long : length bs ≡ 14 + length ds * (t.width + 8) = omega arith in
      let whole : (head_of bs).whole ≡ 14 + length ds * (t.width + 8) = word_be4 (14 + length ds * (t.width + 8)) (omega arith) in
      let count : (head_of bs).count ≡ length ds = word_be4 (length ds) (omega arith) in
      let root_is : (head_of bs).root ≡ root = word_be4 root fits in
      let cp = ap (λ m. m * (t.width + 8)) count in
      let right : Result (Head × List ℕ) ReceiveFault = Ok (head_of bs, drop 14 bs) in
      let six : unless (leb (head_of bs).count capacity) ShelfFull right ≡ right = cond-true (leb (head_of bs).count capacity) right (Err ShelfFull) (le-leb (head_of bs).count capacity (omega arith)) in
      let five : unless (eqb (length bs) (14 + (head_of bs).count * (t.width + 8))) BadLength (unless (leb (head_of bs).count capacity) ShelfFull right) ≡ unless (leb (head_of bs).count capacity) ShelfFull right =
      cond-true (eqb (length bs) (14 + (head_of bs).count * (t.width + 8))) (unless (leb (head_of bs).count capacity) ShelfFull right) (Err BadLength) (eq-eqb (length bs) (14 + (head_of bs).count * (t.width + 8)) (omega arith)) in
      let rest : Result (Head × List ℕ) ReceiveFault = unless (eqb (length bs) (14 + (head_of bs).count * (t.width + 8))) BadLength (unless (leb (head_of bs).count capacity) ShelfFull right) in
      let four = cond-true (eqb t.kind t.kind) rest (Err OtherKind) (eq-eqb t.kind t.kind refl) in
      let two = cond-true (eqb (head_of bs).whole (length bs)) (unless (eqb t.kind t.kind) OtherKind rest) (Err BadLength) (eq-eqb (head_of bs).whole (length bs) (whole ∙ sym long)) in
      let one = cond-true (leb 14 (length bs)) (unless (eqb (head_of bs).whole (length bs)) BadLength (unless (eqb t.kind t.kind) OtherKind rest)) (Err BadLength) (le-leb 14 (length bs) (omega arith)) in
      one ∙ two ∙ four ∙ five ∙ six ∙ (λ i. Ok (record { whole = whole i; version = 1; kind = t.kind; count = count i; root = root_is i }, records t.bytes ds))

  pub takes_written : TakesWritten before t
  takes_written capacity small vs u proper short few r ws x =
      let l = written before order u proper in
      let ds = (fresh before u).drawn in
      let root = (fresh before u).root in
      let g = l.good in
      let head = head_passes capacity root ds few small (omega arith) in
      let y = subst (λ h. ByHead before t capacity vs (dispatch t.kind t.width t.bytes (fresh before u)) h r ws) head x in
      let recs = records_read ds [] l.sound.formed (omega arith) in
      let z = subst (λ q. ByRecords before t capacity vs (dispatch t.kind t.width t.bytes (fresh before u)) root q r ws) recs y in
      ends (subst (λ c. Ends before capacity vs (Good ds root × (dispatch t.kind t.width t.bytes (fresh before u) ≡ dispatch t.kind t.width t.bytes (fresh before c))) c r ws) l.is z) g
    where
      ends : Ends before capacity vs (Good (fresh before u).drawn (fresh before u).root × (dispatch t.kind t.width t.bytes (fresh before u) ≡ dispatch t.kind t.width t.bytes (fresh before u))) u r ws → Good (fresh before u).drawn (fresh before u).root → Lays before capacity vs u r ws × OnlyFull before r
      ends (inl e) g = absurd (e.0 (g, refl))
      ends (inr (inl e)) g = absurd (let s = short e.1.0 e.1.1 in let h = e.1.2 in omega arith)
      ends (inr (inr e)) g = (e.2, e.3)
