-- The bytes of a dispatch whose head and records are right are those of its vertices and its root.
use Rattle.std.proofs.Common.{◌≡◌, ℕ, suc, ◌+◌, ◌-◌, ◌*◌, ◌/◌, ◌%◌, ◌<◌, ◌≤◌, Bool, true, false, eqb, leb, ◌↔◌, List, [], ◌∷◌, ◌++◌, length, get_or, take, drop, Some, Ok, Result, sym, refl, ap, ◌∙◌, subst, ap₂, inl, inr, append_assoc, append-nil, suc-mul, mul-le-mul, zero-mul, arith, length-drop, take-append-drop, length-take, length-take-le, get_or-drop, get_or-take, drop-drop}
use Rattle.std.proofs.lemmas.List.{drop_more, get_or_past, drop_all}
use Rattle.std.proofs.lemmas.Bool.{leb-true, eqb-true}
use Rattle.std.specs.List.{slice_get}
use Rattle.symbols.specs.Order.{Order}
use Rattle.symbols.specs.Wire.{Travel, WireLaws}
use Rattle.ledger.specs.declared.Vertex.{Vertex}
use Rattle.ledger.specs.Diagrams.{Formed}
use Rattle.ledger.specs.Lists.{Codes}
use Rattle.ledger.specs.Dispatch.{be4, records, dispatch}
use Rattle.ledger.proofs.Bytes.{received}
use Rattle.wire.specs.Heads.{word_of, word, head_of}
use Rattle.wire.specs.Records.{record_of}
use Rattle.wire.specs.declared.head.Head.{Head}
use Rattle.wire.specs.declared.faults.ReceiveFault.{ReceiveFault}
use Rattle.wire.specs.declared.faults.ReceiveFault.TheVariants.{BadLength, OtherVersion, OtherKind, ShelfFull}
use Rattle.receiving.specs.Checks.{unless, head_checked, record_at}
use Rattle.receiving.specs.Reads.{ReadAs}
use Rattle.receiving.specs.Receives.{InOrder, AsWritten, Ends}
use Rattle.receiving.proofs.Checking.{err_ok, right_links}

-- each element is a byte
abbrev pub AllBytes : List ℕ → Type 0
AllBytes bs = (i : ℕ) → get_or bs i 0 < 256

bytes_drop : (n : ℕ) (bs : List ℕ) → AllBytes bs → AllBytes (drop n bs)
bytes_drop n bs all i = let h = all (n + i) in let e = get_or-drop n bs i 0 in omega arith

bytes_take : (n : ℕ) (bs : List ℕ) → AllBytes bs → AllBytes (take n bs)
bytes_take n bs all i = let a = all i in grind (arith, get_or-take, get_or_past, length-take)

be4_word : (a b c d : ℕ) → a < 256 → b < 256 → c < 256 → d < 256 → be4 (word_of a b c d) ≡ a ∷ b ∷ c ∷ d ∷ []
be4_word a b c d ha hb hc hd =
    let p : word_of a b c d / 16777216 % 256 ≡ a = omega arith in
    let q : word_of a b c d / 65536 % 256 ≡ b = omega arith in
    let r : word_of a b c d / 256 % 256 ≡ c = omega arith in
    let s : word_of a b c d % 256 ≡ d = omega arith in
    λ i. p i ∷ q i ∷ r i ∷ s i ∷ []

-- four bytes are a number
four : (bs : List ℕ) (i : ℕ) → AllBytes bs → i + 4 ≤ length bs → drop i bs ≡ be4 (word bs i) ++ drop (i + 4) bs
four bs i all h =
    let a = drop_more bs i 0 (omega arith) in
    let b = drop_more bs (i + 1) 0 (omega arith) in
    let q2 : i + 1 + 1 ≡ i + 2 = omega arith in
    let c = drop_more bs (i + 2) 0 (omega arith) in
    let q3 : i + 2 + 1 ≡ i + 3 = omega arith in
    let d = drop_more bs (i + 3) 0 (omega arith) in
    let q4 : i + 3 + 1 ≡ i + 4 = omega arith in
    let w = be4_word (get_or bs i 0) (get_or bs (i + 1) 0) (get_or bs (i + 2) 0) (get_or bs (i + 3) 0) (all i) (all (i + 1)) (all (i + 2)) (all (i + 3)) in
    a ∙ ap (λ x. get_or bs i 0 ∷ x) (b ∙ ap (λ x. get_or bs (i + 1) 0 ∷ x) (ap (λ n. drop n bs) q2 ∙ c ∙ ap (λ x. get_or bs (i + 2) 0 ∷ x) (ap (λ n. drop n bs) q3 ∙ d ∙ ap (λ n. get_or bs (i + 3) 0 ∷ drop n bs) q4))) ∙
    ap (λ x. x ++ drop (i + 4) bs) (sym w)

-- a head that is right
pub record HeadRight (kind width capacity : ℕ) (bs : List ℕ) (h : Head) (rest : List ℕ) : Type 0 where
  pub long : 14 ≤ length bs
  pub whole : (head_of bs).whole ≡ length bs
  pub version : (head_of bs).version ≡ 1
  pub kind_is : (head_of bs).kind ≡ kind
  pub length_is : length bs ≡ 14 + (head_of bs).count * (width + 8)
  pub few : (head_of bs).count ≤ capacity
  pub head_is : head_of bs ≡ h
  pub rest_is : drop 14 bs ≡ rest

unless_ok : {X : Type 0} (b : Bool) (e : ReceiveFault) (r : Result X ReceiveFault) (x : X) → unless b e r ≡ Ok x → (b ≡ true) × (r ≡ Ok x)
unless_ok true e r x p = (refl, p)
unless_ok false e r x p = absurd (err_ok refl p)

pub head_right : (kind width capacity : ℕ) (bs : List ℕ) (h : Head) (rest : List ℕ) → head_checked kind width capacity bs ≡ Ok (h, rest) → HeadRight kind width capacity bs h rest
head_right kind width capacity bs h rest p =
    let one = unless_ok (leb 14 (length bs)) BadLength _ (h, rest) p in
    let two = unless_ok (eqb (head_of bs).whole (length bs)) BadLength _ (h, rest) one.1 in
    let three = unless_ok (eqb (head_of bs).version 1) OtherVersion _ (h, rest) two.1 in
    let four = unless_ok (eqb (head_of bs).kind kind) OtherKind _ (h, rest) three.1 in
    let five = unless_ok (eqb (length bs) (14 + (head_of bs).count * (width + 8))) BadLength _ (h, rest) four.1 in
    let six = unless_ok (leb (head_of bs).count capacity) ShelfFull _ (h, rest) five.1 in
    let same : ◌≡◌ {A = Result (Head × List ℕ) ReceiveFault} (Ok (head_of bs, drop 14 bs)) (Ok (h, rest)) = six.1 in
    let pair : ◌≡◌ {A = Head × List ℕ} (head_of bs, drop 14 bs) (h, rest) = cc in
    record {
      long = leb-true 14 (length bs) one.0;
      whole = eqb-true (head_of bs).whole (length bs) two.0;
      version = eqb-true (head_of bs).version 1 three.0;
      kind_is = eqb-true (head_of bs).kind kind four.0;
      length_is = eqb-true (length bs) (14 + (head_of bs).count * (width + 8)) five.0;
      few = leb-true (head_of bs).count capacity six.0;
      head_is = ap (λ (x : Head × List ℕ). x.0) pair;
      rest_is = ap (λ (x : Head × List ℕ). x.1) pair;
    }

module _ {S : Type 0} (t : Travel S) (laws : WireLaws t) where
  -- a record that is right is its vertex's t.bytes
  record_back : (own : ℕ) (bs : List ℕ) (v : Vertex S) → AllBytes bs → length bs ≡ t.width + 8 → record_of t own bs ≡ Ok v → t.bytes v.label ++ (be4 v.zero ++ be4 v.one) ≡ bs
  record_back own bs v all long ok =
      let l = right_links t own bs v ok in
      let wide : length (take t.width bs) ≡ t.width = length-take-le t.width bs (omega arith) in
      let label : t.bytes v.label ≡ take t.width bs = laws.own (take t.width bs) v.label wide (λ k h. bytes_take t.width bs all k) l.label_is in
      let low = four bs t.width all (omega arith) in
      let high = four bs (t.width + 4) all (omega arith) in
      let q : t.width + 4 + 4 ≡ t.width + 8 = omega arith in
      let over : drop (t.width + 4 + 4) bs ≡ [] = drop_all (t.width + 4 + 4) bs (omega arith) in
      ap₂ (λ x y. x ++ y) label
      (ap₂ (λ z o. be4 z ++ be4 o) l.zero_is l.one_is ∙ ap (λ x. be4 (word bs t.width) ++ x) (sym (append-nil (be4 (word bs (t.width + 4)))) ∙ ap (λ x. be4 (word bs (t.width + 4)) ++ x) (sym over) ∙ sym high) ∙ sym low) ∙
      take-append-drop t.width bs

  records_from : (rest : List ℕ) → AllBytes rest → (es : List (Vertex S)) (k : ℕ) → length rest ≡ (k + length es) * (t.width + 8) →
      ((j : ℕ) (v : Vertex S) → slice_get es j ≡ Some v → record_of t (k + j + 2) (record_at t.width rest (k + j)) ≡ Ok v) → records t.bytes es ≡ drop (k * (t.width + 8)) rest
  records_from rest all [] k long each =
      let e : k + 0 ≡ k = omega arith in
      let l = ap (λ n. n * (t.width + 8)) e in
      sym (drop_all (k * (t.width + 8)) rest (omega arith))
  records_from rest all (v ∷ es) k long each =
      let size = t.width + 8 in
      let X = drop (k * size) rest in
      let e0 : k + 0 ≡ k = omega arith in
      let ok : record_of t (k + 2) (record_at t.width rest k) ≡ Ok v = ap (λ n. record_of t (n + 2) (record_at t.width rest n)) (sym e0) ∙ each 0 v refl in
      let e1 : k + suc (length es) ≡ suc k + length es = omega arith in
      let grow = suc-mul k size in
      let le = mul-le-mul {n₁ = suc k} {m₁ = size} {n₂ = suc k + length es} {m₂ = size} (omega arith) (omega arith) in
      let long' : length rest ≡ (suc k + length es) * size = long ∙ ap (λ n. n * size) e1 in
      let lx : length X ≡ length rest - k * size = length-drop (k * size) rest in
      let wide : length (take size X) ≡ size = length-take-le size X (omega arith) in
      let rec = record_back (k + 2) (take size X) v (bytes_take size X (bytes_drop (k * size) rest all)) wide ok in
      let next = records_from rest all es (suc k) long' (λ j w p. let q : k + suc j ≡ suc k + j = omega arith in subst (λ n. record_of t (n + 2) (record_at t.width rest n) ≡ Ok w) q (each (suc j) w p)) in
      let past : drop (suc k * size) rest ≡ drop size X = ap (λ n. drop n rest) grow ∙ sym (drop-drop size (k * size) rest) in
      sym (append_assoc (t.bytes v.label) (be4 v.zero ++ be4 v.one) (records t.bytes es)) ∙ ap₂ (λ x y. x ++ y) rec (next ∙ past) ∙ take-append-drop size X

  module _ (capacity : ℕ) (bs : List ℕ) (all : AllBytes bs) (h : Head) (rest : List ℕ) (H : HeadRight t.kind t.width capacity bs h rest) (ds : List (Vertex S)) (R : ReadAs t rest ds) (many : length ds ≡ h.count) where
    -- the whole
    pub bytes_are : dispatch t.kind t.width t.bytes (record { drawn = ds; root = h.root }) ≡ bs
    bytes_are =
        let count_is : word bs 6 ≡ length ds = ap (λ (x : Head). x.count) H.head_is ∙ sym many in
        let root_is : word bs 10 ≡ h.root = ap (λ (x : Head). x.root) H.head_is in
        let whole_is : word bs 0 ≡ 14 + length ds * (t.width + 8) = H.whole ∙ H.length_is ∙ ap (λ n. 14 + n * (t.width + 8)) count_is in
        let version_is : get_or bs 4 0 ≡ 1 = H.version in
        let kind_is : get_or bs 5 0 ≡ t.kind = H.kind_is in
        let long = H.long in
        let q : length ds ≡ 0 + length ds = omega arith in
        let recs : records t.bytes ds ≡ rest =
        records_from rest (subst AllBytes H.rest_is (bytes_drop 14 bs all)) ds 0 (R.long ∙ ap (λ n. n * (t.width + 8)) q)
        (λ j v p. let e : j ≡ 0 + j = omega arith in subst (λ n. record_of t (n + 2) (record_at t.width rest n) ≡ Ok v) e (R.each j v p)) ∙
        ap (λ n. drop n rest) (zero-mul (t.width + 8)) in
        let rest_is : drop 14 bs ≡ records t.bytes ds = H.rest_is ∙ sym recs in
        let a = four bs 0 all (omega arith) in
        let b = drop_more bs 4 0 (omega arith) in
        let c = drop_more bs 5 0 (omega arith) in
        let d = four bs 6 all (omega arith) in
        let e = four bs 10 all (omega arith) in
        sym
        (a ∙ ap (λ x. be4 (word bs 0) ++ x) (b ∙ ap (λ x. get_or bs 4 0 ∷ x) (c ∙ ap (λ x. get_or bs 5 0 ∷ x) (d ∙ ap (λ x. be4 (word bs 6) ++ x) e))) ∙
        (λ i. be4 (whole_is i) ++ (version_is i ∷ kind_is i ∷ be4 (count_is i) ++ (be4 (root_is i) ++ rest_is i))))

    module _ (before : S → S → Bool) (order : Order before) (formed : Formed before ds) (short : length ds ≤ 1000000) where
      pub as_written : InOrder before ds h.root ↔ AsWritten before t bs ds h.root
      as_written = (
        λ r. (r.0, sym ((received before order t.kind t.width t.bytes t.reads laws ds formed short h.root r.0).0 (r.1, r.2) ∙ bytes_are)),
        λ r. let d = (received before order t.kind t.width t.bytes t.reads laws ds formed short h.root r.0).1 (sym r.1 ∙ sym bytes_are) in (r.0, d.0, d.1),
      )

-- what is right by one measure is right by the other
pub ends_by : {S : Type 0} (before : S → S → Bool) (capacity : ℕ) (vs : List (Vertex S)) (P Q : Type 0) (t : Codes S) (r : Result ℕ ReceiveFault) (ws : List (Vertex S)) → (P ↔ Q) → Ends before capacity vs P t r ws → Ends before capacity vs Q t r ws
ends_by before capacity vs P Q t r ws e (inl x) = inl (λ q. x.0 (e.1 q), x.1)
ends_by before capacity vs P Q t r ws e (inr (inl x)) = inr (inl (e.0 x.0, x.1, x.2))
ends_by before capacity vs P Q t r ws e (inr (inr x)) = inr (inr (e.0 x.0, x.1, x.2, x.3))

-- what a right head says of its records
pub head_few : (kind width capacity : ℕ) (bs : List ℕ) (h : Head) (rest : List ℕ) → HeadRight kind width capacity bs h rest → (h.count ≤ capacity) × (length rest ≡ h.count * (width + 8))
head_few kind width capacity bs h rest H =
    let c : (head_of bs).count ≡ h.count = ap (λ (x : Head). x.count) H.head_is in
    let few = H.few in
    let l = ap length (sym H.rest_is) ∙ length-drop 14 bs in
    let m = H.length_is in
    let p = ap (λ n. n * (width + 8)) c in
    (omega arith, omega arith)
