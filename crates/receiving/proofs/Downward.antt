-- Records laid down one after another are their root's list laid down.
use Rattle.std.proofs.Common.{◌≡◌, ℕ, zero, suc, ◌+◌, ◌-◌, ◌<◌, ◌≤◌, Bool, true, false, ◌⊎◌, List, [], ◌∷◌, ◌++◌, length, take, set, Some, None, Ok, Err, Result, sym, refl, ap, ◌∙◌, subst, ap₂, inl, inr, append_assoc, append-nil, arith, length-append, take-suc}
use mathlib.Core.Path.{subst⁻¹}
use Rattle.std.specs.List.{slice_get}
use Rattle.std.specs.Result.{is_err}
use Rattle.std.proofs.lemmas.Bool.{cases_eq, false≢true}
use Rattle.symbols.specs.Order.{Order}
use Rattle.ledger.specs.declared.Vertex.{Vertex}
use Rattle.ledger.specs.Lists.{Codes, none, begun, Proper}
use Rattle.ledger.specs.Diagrams.{look, Formed, Good, Sound}
use Rattle.ledger.specs.Ledger.{listed, lay, lists, codes, down, down_number, Lays}
use Rattle.ledger.specs.Laid.{Laid, First}
use Rattle.ledger.specs.Visits.{Visits, passed, comes_to}
use Rattle.ledger.proofs.Ends.{length_snoc}
use Rattle.ledger.proofs.Rows.{both_ways, Ledger, Known, lay_held, lay_new, lay_known, lay_adds, lay_knows, known_laid, lay_ledger}
use Rattle.ledger.proofs.Draws.{lists_long, codes_formed, codes_front}
use Rattle.ledger.proofs.Drawn.{pictured}
use Rattle.ledger.proofs.Forming.{formed_proper}
use Rattle.ledger.proofs.Laying.{lay_found, lay_append, laid_known, laid_found, laid_append}
use Rattle.ledger.proofs.Downs.{laid_is}
use Rattle.memory.specs.declared.shelf.Full.{Full}
use Rattle.memory.specs.declared.work.Place.{Place}
use Rattle.memory.specs.Marks.{number_at, noted, noted_vertex}
use Rattle.memory.specs.Shelves.{FoundOrAppended}
use Rattle.receiving.specs.Layings.{lay_all, Laying, Settled}

-- what the places keep
number_same : (ps : List Place) (k other : ℕ) (p : Place) → k < length ps → number_at (set ps k p) k other ≡ p.number
number_same [] k other p h = absurd (omega arith)
number_same (q ∷ ps) zero other p h = refl
number_same (q ∷ ps) (suc k) other p h = number_same ps k other p (omega arith)

number_other : (ps : List Place) (j k other : ℕ) (p : Place) → (j ≡ k → ⊥) → number_at (set ps k p) j other ≡ number_at ps j other
number_other [] j k other p h = refl
number_other (q ∷ ps) zero zero other p h = absurd (h refl)
number_other (q ∷ ps) zero (suc k) other p h = refl
number_other (q ∷ ps) (suc j) zero other p h = refl
number_other (q ∷ ps) (suc j) (suc k) other p h = number_other ps j k other p (λ e. h (ap suc e))

noted_below : (ps : List Place) (n k : ℕ) (p : Place) → n < k + 2 → noted (set ps k p) n ≡ noted ps n
noted_below ps zero k p h = refl
noted_below ps (suc zero) k p h = refl
noted_below ps (suc (suc j)) k p h = number_other ps j k (suc (suc j)) p (omega arith)

module _ {S : Type 0} (before : S → S → Bool) (order : Order before) where
  lay_all_snoc : (row ts : List (Codes S)) (t : Codes S) → lay_all before row (ts ++ t ∷ []) ≡ lay before (lay_all before row ts) t
  lay_all_snoc row [] t = refl
  lay_all_snoc row (u ∷ ts) t = lay_all_snoc (lay before row u) ts t

  -- a list whose parts were laid down first
  lay_again : {row : List (Codes S)} → Ledger before row → (a : S) (z o : Codes S) → lay before (lay before (lay before row z) o) (begun a z o) ≡ lay before row (begun a z o)
  lay_again {row} L a z o = by (both_ways (listed before (lay before (lay before row z) o) (begun a z o)))
    where
      outer : lay before (lay before (lay before row z) o) z ≡ lay before (lay before row z) o
      outer = lay_known before order (lay before (lay before row z) o) z (known_laid before order (lay before row z) o z (lay_knows before order row z))

      inner : lay before (lay before (lay before row z) o) o ≡ lay before (lay before row z) o
      inner = lay_known before order (lay before (lay before row z) o) o (lay_knows before order (lay before row z) o)

      by : (listed before (lay before (lay before row z) o) (begun a z o) ≡ true) ⊎ (listed before (lay before (lay before row z) o) (begun a z o) ≡ false) →
          lay before (lay before (lay before row z) o) (begun a z o) ≡ lay before row (begun a z o)
      by (inl h) = lay_held before order (lay before (lay before row z) o) a z o h ∙ sym (lay_found before order L a z o h)
      by (inr h) =
          lay_new before order (lay before (lay before row z) o) a z o h ∙
          ap (λ r. r ++ begun a z o ∷ []) (ap (λ r. lay before r o) outer ∙ inner) ∙
          sym (lay_append before order L a z o h)

  module _ (ds : List (Vertex S)) (formed : Formed before ds) (row : List (Codes S)) (L : Ledger before row) where
    long : length (lists ds) ≡ length ds
    long = lists_long before order ds

    -- the row after the first d lists
    abbrev after : ℕ → List (Codes S)
    after d = lay_all before row (take d (lists ds))

    after_more : (d : ℕ) → d < length ds → after (suc d) ≡ lay before (after d) (codes ds (suc (suc d)))
    after_more d h = ap (lay_all before row) (take-suc (lists ds) d none (omega (arith, long))) ∙ lay_all_snoc row (take d (lists ds)) (codes ds (suc (suc d)))

    after_ledger : (d : ℕ) → d ≤ length ds → Ledger before (after d)
    after_ledger zero h = L
    after_ledger (suc d) h =
        subst⁻¹ (Ledger before) (after_more d (omega arith))
        (lay_ledger before order (after d) (codes ds (suc (suc d))) (after_ledger d (omega arith)) (formed_proper before order ds formed (suc (suc d)) (omega arith)))

    after_knows : (d n : ℕ) → d ≤ length ds → n < suc (suc d) → Known before (after d) (codes ds n)
    after_knows d zero l h = tt
    after_knows d (suc zero) l h = tt
    after_knows zero (suc (suc j)) l h = absurd (omega arith)
    after_knows (suc d) (suc (suc j)) l h = by (cases_eq j d) (after_knows d (suc (suc j)))
      where
        by : (j ≡ d) ⊎ (j ≡ d → ⊥) → (d ≤ length ds → suc (suc j) < suc (suc d) → Known before (after d) (codes ds (suc (suc j)))) → Known before (after (suc d)) (codes ds (suc (suc j)))
        by (inl e) below =
            subst⁻¹ (λ r. Known before r (codes ds (suc (suc j)))) (after_more d (omega arith))
            (subst⁻¹ (λ x. Known before (lay before (after d) (codes ds (suc (suc d)))) (codes ds (suc (suc x)))) e (lay_knows before order (after d) (codes ds (suc (suc d)))))
        by (inr e) below =
            subst⁻¹ (λ r. Known before r (codes ds (suc (suc j)))) (after_more d (omega arith))
            (known_laid before order (after d) (codes ds (suc (suc d))) (codes ds (suc (suc j))) (below (omega arith) (omega arith)))

    after_longer : (d m : ℕ) → d + m ≤ length ds → length (after d) ≤ length (after (d + m))
    after_longer d zero h = let e : d ≡ d + 0 = omega arith in subst (λ x. length (after d) ≤ length (after x)) e (omega arith)
    after_longer d (suc m) h =
        let e : suc (d + m) ≡ d + suc m = omega arith in
        let below = after_longer d m (omega arith) in
        let a = lay_adds before order (after (d + m)) (codes ds (suc (suc (d + m)))) in
        let l = ap length (after_more (d + m) (omega arith) ∙ a.1) ∙ length-append (after (d + m)) a.0 in
        subst (λ x. length (after d) ≤ length (after x)) e (omega arith)

    record Goes (d n k : ℕ) : Type 0 where
      up : d ≤ k
      in_row : k ≤ length ds
      laid : lay before (after d) (codes ds n) ≡ after k

    goes : {d n k : ℕ} → Visits ds d n k → d ≤ length ds → Good ds n → Goes d n k
    goes {d} {n} {k} (passed h e) l g =
        record { up = omega arith; in_row = omega arith; laid = lay_known before order (after d) (codes ds n) (after_knows d n l h) ∙ ap after e }
    goes {d} {n} {k} (comes_to v j i p h wz wo e f) l g =
        let lz = formed.zero_below n v p in
        let lo = formed.one_below n v p in
        let Z = goes wz l (omega arith) in
        let O = goes wo Z.in_row (omega arith) in
        step Z O
      where
        step : Goes d v.zero j → Goes j v.one i → Goes d n k
        step Z O =
            let is = codes_formed before order ds formed n v p in
            let a : d ≤ j = Z.up in
            let b : j ≤ i = O.up in
            let both : lay before (lay before (after d) (codes ds v.zero)) (codes ds v.one) ≡ after i = ap (λ r. lay before r (codes ds v.one)) Z.laid ∙ O.laid in
            record {
              up = omega arith;
              in_row = omega arith;
              laid =
                  ap (lay before (after d)) is ∙
                  sym (lay_again (after_ledger d l) v.label (codes ds v.zero) (codes ds v.one)) ∙
                  ap₂ (lay before) both (sym is ∙ ap (codes ds) e) ∙
                  sym (after_more i (omega arith)) ∙
                  ap after f;
            }

    -- all records laid down are the root's list laid down
    pub all_laid : (root : ℕ) → Good ds root → Visits ds 0 root (length ds) → lay_all before row (take (length ds) (lists ds)) ≡ lay before row (codes ds root)
    all_laid root g w = sym (goes w (omega arith) g).laid

  module _ (ds vs : List (Vertex S)) (formed : Formed before ds) (sound : Sound before vs) where
    -- a vertex that was found or appended
    record OneLaid (ws : List (Vertex S)) (t : Codes S) (us : List (Vertex S)) (m : ℕ) : Type 0 where
      extra : List (Vertex S)
      extends : us ≡ ws ++ extra
      laid : Laid before ws t us m

    module _ (k : ℕ) (ws : List (Vertex S)) (work : List Place) (R : Laying before ds vs k ws work) (v : Vertex S) (at : slice_get ds k ≡ Some v) (few : k < length ds) where
      z : Good ws (noted work v.zero) × (codes ws (noted work v.zero) ≡ codes ds v.zero)
      z = R.numbers v.zero (let h = formed.zero_below (suc (suc k)) v at in omega arith)

      o : Good ws (noted work v.one) × (codes ws (noted work v.one) ≡ codes ds v.one)
      o = R.numbers v.one (let h = formed.one_below (suc (suc k)) v at in omega arith)

      is : begun v.label (codes ws (noted work v.zero)) (codes ws (noted work v.one)) ≡ codes ds (suc (suc k))
      is = ap₂ (begun v.label) z.1 o.1 ∙ sym (codes_formed before order ds formed (suc (suc k)) v at)

      proper : Proper before (begun v.label (codes ws (noted work v.zero)) (codes ws (noted work v.one)))
      proper = subst⁻¹ (Proper before) is (formed_proper before order ds formed (suc (suc k)) (omega arith))

      if_found : (m : ℕ) → look ws m ≡ Some (noted_vertex work v) → Laid before ws (codes ds (suc (suc k))) ws m
      if_found m e =
          subst (λ t. Laid before ws t ws m) is
          (laid_found before order ws ws ws R.sound (codes ws (noted work v.zero)) (codes ws (noted work v.one)) (noted work v.zero) (noted work v.one)
          (laid_known before order ws R.sound (noted work v.zero) z.0) (laid_known before order ws R.sound (noted work v.one) o.0) v.label m e)

      if_new : First ws (noted_vertex work v) None → Laid before ws (codes ds (suc (suc k))) (ws ++ noted_vertex work v ∷ []) (suc (suc (length ws)))
      if_new new =
          subst (λ t. Laid before ws t (ws ++ noted_vertex work v ∷ []) (suc (suc (length ws)))) is
          (laid_append before order ws ws ws R.sound (codes ws (noted work v.zero)) (codes ws (noted work v.one)) (noted work v.zero) (noted work v.one)
          (laid_known before order ws R.sound (noted work v.zero) z.0) (laid_known before order ws R.sound (noted work v.one) o.0) v.label new proper)

      one_laid : (capacity m : ℕ) (us : List (Vertex S)) → FoundOrAppended capacity ws (noted_vertex work v) (Ok m) us → OneLaid ws (codes ds (suc (suc k))) us m
      one_laid capacity m us (inl f) =
          let e : f.0 ≡ m = (let q = f.2 in cc) in
          let q : us ≡ ws = f.3 in
          record { extra = []; extends = q ∙ sym (append-nil ws); laid = subst⁻¹ (λ xs. Laid before ws (codes ds (suc (suc k))) xs m) q (subst (Laid before ws (codes ds (suc (suc k))) ws) e (if_found f.0 f.1.0)) }
      one_laid capacity m us (inr f) =
          let q : us ≡ ws ++ noted_vertex work v ∷ [] = f.1.1 in
          let e : suc (suc (length ws)) ≡ m = (let n = f.1.2 in omega arith) in
          record {
            extra = noted_vertex work v ∷ [];
            extends = q;
            laid = subst⁻¹ (λ xs. Laid before ws (codes ds (suc (suc k))) xs m) q (subst (Laid before ws (codes ds (suc (suc k))) (ws ++ noted_vertex work v ∷ [])) e (if_new f.0));
          }

      pub laying_more : (capacity m : ℕ) (us : List (Vertex S)) (p : Place) → k < length work → p.number ≡ m → FoundOrAppended capacity ws (noted_vertex work v) (Ok m) us → Laying before ds vs (k + 1) us (set work k p)
      laying_more capacity m us p room e f = by (one_laid capacity m us f)
        where
          by : OneLaid ws (codes ds (suc (suc k))) us m → Laying before ds vs (k + 1) us (set work k p)
          by one =
              record {
                sound = one.laid.sound;
                more = R.more ++ one.extra;
                extends = one.extends ∙ ap (λ xs. xs ++ one.extra) R.extends ∙ append_assoc vs R.more one.extra;
                row =
                    one.laid.row ∙ ap (λ r. lay before r (codes ds (suc (suc k)))) R.row ∙ sym (after_more ds formed (lists vs) (pictured before order vs sound).ledger k few) ∙
                    ap (λ n. lay_all before (lists vs) (take n (lists ds))) (let q : suc k ≡ k + 1 = omega arith in q);
                numbers = λ n h. each n h (cases_eq n (suc (suc k)));
              }
            where
              each : (n : ℕ) → n < k + 1 + 2 → (n ≡ suc (suc k)) ⊎ (n ≡ suc (suc k) → ⊥) → Good us (noted (set work k p) n) × (codes us (noted (set work k p) n) ≡ codes ds n)
              each n h (inl s) =
                  subst⁻¹ (λ x. Good us (noted (set work k p) x) × (codes us (noted (set work k p) x) ≡ codes ds x)) s
                  (subst⁻¹ (λ y. Good us y × (codes us y ≡ codes ds (suc (suc k)))) (number_same work k (suc (suc k)) p room ∙ e) (one.laid.good, one.laid.is))
              each n h (inr s) =
                  let old = R.numbers n (omega arith) in
                  let g = old.0 in
                  let l = ap length one.extends ∙ length-append ws one.extra in
                  subst⁻¹ (λ y. Good us y × (codes us y ≡ codes ds n)) (noted_below work n k p (omega arith))
                  (omega arith, ap (λ xs. codes xs (noted work n)) one.extends ∙ codes_front before order ws one.extra (noted work n) g ∙ old.1)

      pub laying_full : (capacity root : ℕ) (us : List (Vertex S)) (e : Full) → Good ds root → Visits ds 0 root (length ds) → FoundOrAppended capacity ws (noted_vertex work v) (Err e) us → Settled before capacity vs (codes ds root) (Err e) us
      laying_full capacity root us e g w (inl f) = absurd (let q = f.2 in let c : ◌≡◌ {A = ℕ} 0 1 = cc in omega arith)
      laying_full capacity root us e g w (inr f) =
          let L = (pictured before order vs sound).ledger in
          let full : length ws ≡ capacity = f.1.0 in
          let one = if_new f.0 in
          let long_us = ap length one.row in
          let long_new = lists_long before order (ws ++ noted_vertex work v ∷ []) in
          let snoc = length_snoc ws (noted_vertex work v) in
          let next : lay before (lists ws) (codes ds (suc (suc k))) ≡ lay_all before (lists vs) (take (suc k) (lists ds)) =
          ap (λ r. lay before r (codes ds (suc (suc k)))) R.row ∙ sym (after_more ds formed (lists vs) L k few) in
          let long_next = ap length next in
          let up = after_longer ds formed (lists vs) L (suc k) (length ds - suc k) (omega arith) in
          let q : suc k + (length ds - suc k) ≡ length ds = omega arith in
          let up' = ap (λ n. length (lay_all before (lists vs) (take n (lists ds)))) q in
          let all = ap length (all_laid ds formed (lists vs) L root g w) in
          (omega arith, (R.more, f.1.1 ∙ R.extends))

    pub laying_none : (work : List Place) → Laying before ds vs 0 vs work
    laying_none work = record { sound = sound; more = []; extends = sym (append-nil vs); row = refl; numbers = λ n h. by n h }
      where
        by : (n : ℕ) → n < 0 + 2 → Good vs (noted work n) × (codes vs (noted work n) ≡ codes ds n)
        by zero h = (omega arith, refl)
        by (suc zero) h = (omega arith, refl)
        by (suc (suc j)) h = absurd (omega arith)

    pub laying_all : (root k n : ℕ) (ws : List (Vertex S)) (work : List Place) → k ≡ length ds → Good ds root → Visits ds 0 root (length ds) → Laying before ds vs k ws work → n ≡ noted work root → Laid before vs (codes ds root) ws n
    laying_all root k n ws work e g w R q =
        let m = R.numbers root (omega arith) in
        record {
          sound = R.sound;
          row = R.row ∙ ap (λ x. lay_all before (lists vs) (take x (lists ds))) e ∙ all_laid ds formed (lists vs) (pictured before order vs sound).ledger root g w;
          good = subst⁻¹ (Good ws) q m.0;
          is = ap (codes ws) q ∙ m.1;
        }

  pub lands : (capacity : ℕ) (vs : List (Vertex S)) (t : Codes S) (ws : List (Vertex S)) (n : ℕ) → length ws ≤ capacity → Laid before vs t ws n →
      (length (lay before (lists vs) t) ≤ capacity) × (ws ≡ down before vs t) × (n ≡ down_number before vs t)
  lands capacity vs t ws n room laid =
      let is = laid_is before order vs t ws n laid in
      let l = (pictured before order ws laid.sound).long in
      let m = ap length laid.row in
      (omega arith, is.0, is.1)

  -- what was laid down stands
  pub stands : (capacity : ℕ) (vs : List (Vertex S)) (t : Codes S) (ws : List (Vertex S)) (r : Result ℕ Full) → is_err r ≡ false → length ws ≤ capacity → Settled before capacity vs t r ws → Lays before capacity vs t r ws
  stands capacity vs t ws (Ok n) e room s = lands capacity vs t ws n room s
  stands capacity vs t ws (Err f) e room s = absurd (false≢true (sym e))
