-- Records that are read one after another, and what they are then.
use Rattle.std.proofs.Common.{◌≡◌, ℕ, suc, ◌+◌, ◌-◌, ◌*◌, ◌<◌, ◌≤◌, Bool, true, false, cond, ◌||◌, eqb, leb, ◌≢◌, ◌⊎◌, List, [], ◌∷◌, ◌++◌, length, get_or, take, drop, Some, None, Ok, Err, Result, sym, refl, ap, ◌∙◌, subst, inl, inr, mul-le-mul_right, suc-mul, zero-mul, arith, take-take, drop-drop}
use mathlib.Core.Path.{subst⁻¹}
use Rattle.std.specs.List.{slice_get}
use Rattle.std.specs.Result.{MatchResult, IsErrAnd}
use Rattle.std.proofs.lemmas.Result.{err_from_is_err_and}
use Rattle.std.proofs.lemmas.Option.{slice_get_cases}
use Rattle.std.proofs.lemmas.Bool.{cases_Bool, or_parts, leb-false, eqb-false, cond-true, cond-false}
use Rattle.symbols.specs.Order.{Order}
use Rattle.symbols.specs.Wire.{Travel}
use Rattle.symbols.specs.declared.SymbolFault.{SymbolFault}
use Rattle.ledger.specs.declared.Vertex.{Vertex}
use Rattle.ledger.specs.Diagrams.{look, Formed, Good}
use Rattle.ledger.proofs.Canon.{vertex_good}
use Rattle.ledger.proofs.Drawn.{look_cases}
use Rattle.ledger.proofs.Ends.{length_snoc, nth_cases}
use Rattle.ledger.proofs.Gathering.{sound_empty}
use Rattle.ledger.proofs.Reading.{none_some}
use Rattle.wire.specs.Heads.{word}
use Rattle.wire.specs.Records.{linked, record_of, comes_before, checked, record_in, onward, records_in}
use Rattle.wire.specs.declared.faults.RecordFault.{RecordFault}
use Rattle.wire.specs.declared.faults.RecordFault.TheVariants.{LinkNotBelow, OneLinkZero, LabelNotAfter}
use Rattle.wire.specs.declared.faults.FaultyRecord.{FaultyRecord}
use Rattle.wire.proofs.Labels.{Labels, zero_label}
use Rattle.receiving.specs.Checks.{record_at, zero_checked, record_checked}
use Rattle.receiving.specs.Reads.{ReadAs, rows_of, rows_in, Whole}

pub err_ok : {A E : Type 0} {r : Result A E} {e : E} {a : A} → r ≡ Err e → r ≡ Ok a → ⊥
err_ok p q = let z : ◌≡◌ {A = ℕ} 0 1 = cc in omega arith

module _ {S : Type 0} where
  -- a record that is right: its label is read, both links are below its number, and the one link is not 0
  pub record Linked (own low high : ℕ) (r : Result S SymbolFault) (v : Vertex S) : Type 0 where
    pub label_is : r ≡ Ok v.label
    pub zero_is : v.zero ≡ low
    pub one_is : v.one ≡ high
    pub zero_below : v.zero < own
    pub one_below : v.one < own
    pub one_not_0 : v.one ≢ 0

  pub linked_ok : (own low high : ℕ) (r : Result S SymbolFault) (v : Vertex S) → linked own low high r ≡ Ok v → Linked own low high r v
  linked_ok own low high (Err e) v p = absurd (err_ok refl p)
  linked_ok own low high (Ok s) v p = by (cases_Bool (leb own low || leb own high)) (cases_Bool (eqb high 0))
    where
      right : Result (Vertex S) RecordFault
      right = Ok (record { label = s; zero = low; one = high })

      by : ((leb own low || leb own high) ≡ true) ⊎ ((leb own low || leb own high) ≡ false) → (eqb high 0 ≡ true) ⊎ (eqb high 0 ≡ false) → Linked own low high (Ok s) v
      by (inl a) b = absurd (err_ok (cond-true (leb own low || leb own high) (Err LinkNotBelow) (cond (eqb high 0) (Err OneLinkZero) right) a) p)
      by (inr a) (inl b) = absurd (err_ok (cond-false (leb own low || leb own high) (Err LinkNotBelow) (cond (eqb high 0) (Err OneLinkZero) right) a ∙ cond-true (eqb high 0) (Err OneLinkZero) right b) p)
      by (inr a) (inr b) =
          let q : right ≡ Ok v = sym (cond-false (leb own low || leb own high) (Err LinkNotBelow) (cond (eqb high 0) (Err OneLinkZero) right) a ∙ cond-false (eqb high 0) (Err OneLinkZero) right b) ∙ p in
          let is : record { label = s; zero = low; one = high } ≡ v = cc in
          let ls : s ≡ v.label = ap (λ (x : Vertex S). x.label) is in
          let zs : low ≡ v.zero = ap (λ (x : Vertex S). x.zero) is in
          let os : high ≡ v.one = ap (λ (x : Vertex S). x.one) is in
          let both = or_parts (leb own low) (leb own high) a in
          let lz = leb-false own low both.0 in
          let lo = leb-false own high both.1 in
          record {
            label_is = ap Ok ls;
            zero_is = sym zs;
            one_is = sym os;
            zero_below = omega arith;
            one_below = omega arith;
            one_not_0 = λ e. eqb-false high 0 b (os ∙ e);
          }

  pub right_links : (t : Travel S) (own : ℕ) (bs : List ℕ) (v : Vertex S) → record_of t own bs ≡ Ok v →
      Linked own (word bs t.width) (word bs (t.width + 4)) (t.reads (take t.width bs)) v
  right_links t own bs v e = linked_ok own (word bs t.width) (word bs (t.width + 4)) (t.reads (take t.width bs)) v e

  module _ (before : S → S → Bool) (order : Order before) where
    -- one vertex more
    formed_more : (vs : List (Vertex S)) → Formed before vs → (v : Vertex S) → Good vs v.zero → Good vs v.one → v.one ≢ 0 →
        ((w : Vertex S) → look vs v.zero ≡ Some w → before v.label w.label ≡ true) → Formed before (vs ++ v ∷ [])
    formed_more vs f v gz go nz comes =
        record {
          zero_below = λ n w e. zero_below' n w (look_cases before order vs v n w e);
          one_below = λ n w e. one_below' n w (look_cases before order vs v n w e);
          one_not_0 = λ n w e. one_not' n w (look_cases before order vs v n w e);
          later = λ n w u e g. later' n w u g (look_cases before order vs v n w e);
        }
      where
        Where : ℕ → Vertex S → Type 0
        Where n w = (look vs n ≡ Some w) ⊎ ((n ≡ suc (suc (length vs))) × (v ≡ w))

        old_look : (n : ℕ) (w : Vertex S) → n ≤ length vs + 1 → look (vs ++ v ∷ []) n ≡ Some w → look vs n ≡ Some w
        old_look n w h e = by (look_cases before order vs v n w e)
          where
            by : Where n w → look vs n ≡ Some w
            by (inl p) = p
            by (inr p) = absurd (omega (arith, p.0))

        zero_below' : (n : ℕ) (w : Vertex S) → Where n w → w.zero < n
        zero_below' n w (inl p) = f.zero_below n w p
        zero_below' n w (inr p) = let e : v.zero ≡ w.zero = ap (λ (x : Vertex S). x.zero) p.1 in omega (arith, p.0)

        one_below' : (n : ℕ) (w : Vertex S) → Where n w → w.one < n
        one_below' n w (inl p) = f.one_below n w p
        one_below' n w (inr p) = let e : v.one ≡ w.one = ap (λ (x : Vertex S). x.one) p.1 in omega (arith, p.0)

        one_not' : (n : ℕ) (w : Vertex S) → Where n w → w.one ≢ 0
        one_not' n w (inl p) = f.one_not_0 n w p
        one_not' n w (inr p) = λ e. nz (ap (λ (x : Vertex S). x.one) p.1 ∙ e)

        later' : (n : ℕ) (w u : Vertex S) → look (vs ++ v ∷ []) w.zero ≡ Some u → Where n w → before w.label u.label ≡ true
        later' n w u g (inl p) =
            let h = f.zero_below n w p in
            let k : Good vs n = vertex_good vs n w p in
            f.later n w u p (old_look w.zero u (omega arith) g)
        later' n w u g (inr p) =
            let e : v.zero ≡ w.zero = ap (λ (x : Vertex S). x.zero) p.1 in
            subst (λ (x : Vertex S). before x.label u.label ≡ true) p.1 (comes u (old_look v.zero u gz (subst⁻¹ (λ n. look (vs ++ v ∷ []) n ≡ Some u) e g)))

    module _ (t : Travel S) (bs : List ℕ) where
      -- the first `place` of n records read as the vertices vs
      pub record Reading (n place : ℕ) : Type 0 where
        pub vs : List (Vertex S)
        pub long : length vs ≡ place
        pub each : (k : ℕ) (v : Vertex S) → slice_get vs k ≡ Some v → record_of t (k + 2) (record_at t.width bs k) ≡ Ok v
        pub formed : Formed before vs
        pub same : records_in before t n [] bs ≡ records_in before t (n - place) vs (drop (place * (t.width + 8)) bs)

      pub reading_none : (n : ℕ) → Reading n 0
      reading_none n =
          let e : n ≡ n - 0 = omega arith in
          record {
            vs = [];
            long = refl;
            each = λ k v p. absurd (none_some refl p);
            formed = (sound_empty before order).formed;
            same = ap (λ m. records_in before t m [] bs) e ∙ ap (λ m. records_in before t (n - 0) [] (drop m bs)) (sym (zero-mul (t.width + 8)));
          }

      labels_read : (vs : List (Vertex S)) → ((k : ℕ) (v : Vertex S) → slice_get vs k ≡ Some v → record_of t (k + 2) (record_at t.width bs k) ≡ Ok v) → Labels t bs vs
      labels_read vs each k v p =
          let l = (right_links t (k + 2) (record_at t.width bs k) v (each k v p)).label_is in
          ap t.reads (sym (take-take t.width (t.width + 8) (drop (k * (t.width + 8)) bs) (omega arith))) ∙ l

      -- the record at `place`, by the vertices before it, is what was checked
      module _ (n place : ℕ) (some : place < n) (R : Reading n place) where
        abbrev here : Result (Vertex S) RecordFault
        here = record_of t (place + 2) (record_at t.width bs place)

        checks : (r : Result (Vertex S) RecordFault) → here ≡ r → zero_checked before t bs r ≡ checked before R.vs r
        checks (Err e) p = refl
        checks (Ok v) p =
            let l = right_links t (place + 2) (record_at t.width bs place) v p in
            ap (λ b. cond b (Ok v) (Err LabelNotAfter)) (zero_label before t bs R.vs (labels_read R.vs R.each) v.label v.zero (let g = l.zero_below in let e = R.long in omega arith))

        as_checked : record_checked before t bs place ≡ record_in before t R.vs (take (t.width + 8) (drop (place * (t.width + 8)) bs))
        as_checked = checks here refl ∙ ap (λ m. checked before R.vs (record_of t (m + 2) (record_at t.width bs place))) (sym R.long)

        step : (m : ℕ) → n - place ≡ suc m →
            records_in before t n [] bs ≡ onward place (record_checked before t bs place) (λ v. records_in before t m (R.vs ++ v ∷ []) (drop (t.width + 8) (drop (place * (t.width + 8)) bs)))
        step m e =
            let rest : Vertex S → Result (List (Vertex S)) FaultyRecord = λ v. records_in before t m (R.vs ++ v ∷ []) (drop (t.width + 8) (drop (place * (t.width + 8)) bs)) in
            R.same ∙ ap (λ k. records_in before t k R.vs (drop (place * (t.width + 8)) bs)) e ∙
            ap (λ k. onward k (record_in before t R.vs (take (t.width + 8) (drop (place * (t.width + 8)) bs))) rest) R.long ∙
            ap (λ r. onward place r rest) (sym as_checked)

        one_less : (n - place) ≡ suc (n - (place + 1))
        one_less = omega arith

        pub reading_stop : (e : RecordFault) → Err e ≡ record_checked before t bs place → records_in before t n [] bs ≡ Err (record { place = place; fault = e })
        reading_stop e p =
            step (n - (place + 1)) one_less ∙
            ap (λ r. onward place r (λ v. records_in before t (n - (place + 1)) (R.vs ++ v ∷ []) (drop (t.width + 8) (drop (place * (t.width + 8)) bs)))) (sym p)

        checked_ok : (r : Result (Vertex S) RecordFault) (v : Vertex S) → Ok v ≡ checked before R.vs r → (r ≡ Ok v) × (comes_before before v.label (look R.vs v.zero) ≡ true)
        checked_ok (Err e) v p = absurd (err_ok refl (sym p))
        checked_ok (Ok w) v p = by (cases_Bool (comes_before before w.label (look R.vs w.zero)))
          where
            by : (comes_before before w.label (look R.vs w.zero) ≡ true) ⊎ (comes_before before w.label (look R.vs w.zero) ≡ false) →
                (◌≡◌ {A = Result (Vertex S) RecordFault} (Ok w) (Ok v)) × (comes_before before v.label (look R.vs v.zero) ≡ true)
            by (inl c) =
                let q : ◌≡◌ {A = Result (Vertex S) RecordFault} (Ok w) (Ok v) = sym (cond-true (comes_before before w.label (look R.vs w.zero)) (Ok w) (Err LabelNotAfter) c) ∙ sym p in
                let is : w ≡ v = cc in
                (q, subst (λ (x : Vertex S). comes_before before x.label (look R.vs x.zero) ≡ true) is c)
            by (inr c) = absurd (err_ok (cond-false (comes_before before w.label (look R.vs w.zero)) (Ok w) (Err LabelNotAfter) c) (sym p))

        pub reading_more : (v : Vertex S) → Ok v ≡ record_checked before t bs place → Reading n (place + 1)
        reading_more v p =
            let ok = checked_ok here v (p ∙ checks here refl) in
            let l = right_links t (place + 2) (record_at t.width bs place) v ok.0 in
            let e = R.long in
            let lz = l.zero_below in
            let lo = l.one_below in
            record {
              vs = R.vs ++ v ∷ [];
              long = length_snoc R.vs v ∙ (omega arith);
              each = λ k w q. next w k v ok.0 (nth_cases R.vs v k w q);
              formed = formed_more R.vs R.formed v (omega arith) (omega arith) l.one_not_0 (λ w q. sym (ap (comes_before before v.label) q) ∙ ok.1);
              same =
                  step (n - (place + 1)) one_less ∙
                  ap (λ r. onward place r (λ w. records_in before t (n - (place + 1)) (R.vs ++ w ∷ []) (drop (t.width + 8) (drop (place * (t.width + 8)) bs)))) (sym p) ∙
                  ap (records_in before t (n - (place + 1)) (R.vs ++ v ∷ [])) (drop-drop (t.width + 8) (place * (t.width + 8)) bs ∙ ap (λ m. drop m bs) past);
            }
          where
            past : place * (t.width + 8) + (t.width + 8) ≡ (place + 1) * (t.width + 8)
            past = let q : place + 1 ≡ suc place = omega arith in rw q (sym (suc-mul place (t.width + 8)))

            next : (w : Vertex S) (k : ℕ) (v : Vertex S) → here ≡ Ok v → (slice_get R.vs k ≡ Some w) ⊎ ((k ≡ length R.vs) × (v ≡ w)) → record_of t (k + 2) (record_at t.width bs k) ≡ Ok w
            next w k v o (inl q) = R.each k w q
            next w k v o (inr q) =
                let at : k ≡ place = q.0 ∙ R.long in
                ap (λ m. record_of t (m + 2) (record_at t.width bs m)) at ∙ o ∙ ap Ok q.1

      pub reading_all : (n place : ℕ) → n ≡ place → length bs ≡ n * (t.width + 8) → Reading n place → Whole before t n bs × (records_in before t n [] bs ≡ Ok (rows_in before t n bs))
      reading_all n place e l R =
          let none_left : n - place ≡ 0 = omega arith in
          let right : records_in before t n [] bs ≡ Ok R.vs = R.same ∙ ap (λ m. records_in before t m R.vs (drop (place * (t.width + 8)) bs)) none_left in
          let is : rows_in before t n bs ≡ R.vs = ap rows_of right in (
            record {
              reads = subst⁻¹ (ReadAs t bs) is (record { long = l ∙ ap (λ m. m * (t.width + 8)) (e ∙ sym R.long); each = R.each });
              formed = subst⁻¹ (Formed before) is R.formed;
              many = ap length is ∙ R.long ∙ sym e;
            },
            right ∙ ap Ok (sym is),
          )

  -- a record that is there reads as its vertex
  pub record_there : (t : Travel S) (bs : List ℕ) (ds : List (Vertex S)) → ReadAs t bs ds → (k : ℕ) → k < length ds →
      (v : Vertex S) × (slice_get ds k ≡ Some v) × (record_of t (k + 2) (record_at t.width bs k) ≡ Ok v)
  record_there t bs ds R k h = by (slice_get_cases ds k).1
    where
      by : ((v : Vertex S) × (k < length ds) × (slice_get ds k ≡ Some v) × (get_or ds k v ≡ v)) ⊎ ((length ds ≤ k) × (slice_get ds k ≡ None)) →
          (v : Vertex S) × (slice_get ds k ≡ Some v) × (record_of t (k + 2) (record_at t.width bs k) ≡ Ok v)
      by (inl s) = (s.0, s.2, R.each k s.0 s.2)
      by (inr s) = absurd (omega (arith, s.0))

pub err_same : {A E : Type 0} {r : Result A E} {a b : E} → r ≡ Err a → r ≡ Err b → a ≡ b
err_same p q = cc

pub ok_same : {A E : Type 0} {r : Result A E} {a b : A} → r ≡ Ok a → r ≡ Ok b → a ≡ b
ok_same p q = cc

-- the record of a zero link stands in front
pub zero_within : {S : Type 0} (t : Travel S) (k : ℕ) (bs : List ℕ) (v : Vertex S) (all : ℕ) → record_of t (k + 2) bs ≡ Ok v → (k + 1) * (t.width + 8) ≤ all → (v.zero - 1) * (t.width + 8) ≤ all
zero_within t k bs v all e h =
    let l = (right_links t (k + 2) bs v e).zero_below in
    let m = mul-le-mul_right {m = v.zero - 1} {n = k + 1} (t.width + 8) (omega arith) in
    omega arith

-- a fault that is given its place
module _ {V : Type 0} (place : ℕ) (r : Result V RecordFault) (m : Result V FaultyRecord) (P : RecordFault → FaultyRecord → Type 0) (gives : (f : RecordFault) (e : FaultyRecord) → P f e → e ≡ record { place = place; fault = f }) where
  pub placed : MatchResult r (λ x. m ≡ Ok x) (λ f. IsErrAnd m (P f)) → (e : FaultyRecord) → m ≡ Err e → (f : RecordFault) × (r ≡ Err f) × (e ≡ record { place = place; fault = f })
  placed cases e p = by r refl cases
    where
      by : (q : Result V RecordFault) → r ≡ q → MatchResult q (λ x. m ≡ Ok x) (λ f. IsErrAnd m (P f)) → (f : RecordFault) × (r ≡ Err f) × (e ≡ record { place = place; fault = f })
      by (Ok v) q c = absurd (err_ok p c)
      by (Err f) q c =
          let s = err_from_is_err_and m c in
          let same : e ≡ s.0 = err_same p s.1 in
          (f, q, same ∙ gives f s.0 s.2)

  pub not_placed : MatchResult r (λ x. m ≡ Ok x) (λ f. IsErrAnd m (P f)) → (v : V) → m ≡ Ok v → r ≡ Ok v
  not_placed cases v p = by r refl cases
    where
      by : (q : Result V RecordFault) → r ≡ q → MatchResult q (λ x. m ≡ Ok x) (λ f. IsErrAnd m (P f)) → r ≡ Ok v
      by (Ok w) q c = q ∙ ap Ok (ok_same c p)
      by (Err f) q c = absurd (let s = err_from_is_err_and m c in err_ok s.1 p)
