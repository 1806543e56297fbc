-- What is written says which list it was written of.
use Rattle.std.proofs.Common.{◌≡◌, ℕ, suc, ◌+◌, ◌*◌, ◌^◌, ◌<◌, ◌≤◌, Bool, ◌↔◌, List, [], ◌∷◌, ◌++◌, length, Some, Ok, Result, sym, refl, ap, ◌∙◌, subst, ap₂, arith}
use Rattle.std.specs.List.{slice_get}
use Rattle.symbols.specs.Order.{Order}
use Rattle.symbols.specs.Wire.{WireLaws}
use Rattle.symbols.specs.declared.SymbolFault.{SymbolFault}
use Rattle.ledger.specs.declared.Vertex.{Vertex}
use Rattle.ledger.specs.Diagrams.{Good, Formed, Different, Sound, SameCodes, Reached, Counts}
use Rattle.ledger.specs.Visits.{Visits}
use Rattle.ledger.specs.Ledger.{lay, codes, Drawing, fresh}
use Rattle.ledger.specs.Dispatch.{be4, records, dispatch}
use Rattle.ledger.proofs.Reading.{head_same, tail_same}
use Rattle.ledger.proofs.Least.{at_least}
use Rattle.ledger.proofs.Canon.{vertex_good}
use Rattle.ledger.proofs.Draws.{same_lists}
use Rattle.ledger.proofs.Drawn.{codes_proper, written_alike}
use Rattle.ledger.proofs.Attaining.{written, written_long}
use Rattle.ledger.proofs.Forming.{formed_proper, accepted}
use Rattle.ledger.proofs.Parts.{reached_many}

four_same : {a b c d e f g h : ℕ} → a ∷ b ∷ c ∷ d ∷ [] ≡ e ∷ f ∷ g ∷ h ∷ [] → (a ≡ e) × (b ≡ f) × (c ≡ g) × (d ≡ h)
four_same p = (cc, cc, cc, cc)

pub be4_same : (m n : ℕ) → m < 2 ^ 32 → n < 2 ^ 32 → be4 m ≡ be4 n → m ≡ n
be4_same m n hm hn e = let r = four_same e in omega arith

pub append_same : (ps bs xs ys : List ℕ) → length ps ≡ length bs → ps ++ xs ≡ bs ++ ys → (ps ≡ bs) × (xs ≡ ys)
append_same [] [] xs ys l e = (refl, e)
append_same [] (b ∷ bs) xs ys l e = absurd (omega arith)
append_same (a ∷ ps) [] xs ys l e = absurd (omega arith)
append_same (a ∷ ps) (b ∷ bs) xs ys l e =
    let r = append_same ps bs xs ys (omega arith) (tail_same refl e) in
    (ap₂ (λ x y. x ∷ y) (head_same refl e) r.0, r.1)

-- numbers that fit four bytes
abbrev Fit : {S : Type 0} → List (Vertex S) → Type 0
Fit [] = Unit {0}
Fit (v ∷ vs) = (v.zero < 2 ^ 32) × (v.one < 2 ^ 32) × Fit vs

module _ {S : Type 0} (kind width : ℕ) (bytes : S → List ℕ) (reads : List ℕ → Result S SymbolFault) (laws : WireLaws (record { kind = kind; width = width; bytes = bytes; reads = reads })) where
  -- no two symbols have the same bytes
  symbol_same : (s t : S) → bytes s ≡ bytes t → s ≡ t
  symbol_same s t e = let same : ◌≡◌ {A = Result S SymbolFault} (Ok s) (Ok t) = sym (laws.back s) ∙ ap reads e ∙ laws.back t in cc

  records_same : (vs ws : List (Vertex S)) → Fit vs → Fit ws → length vs ≡ length ws → records bytes vs ≡ records bytes ws → vs ≡ ws
  records_same [] [] fv fw l e = refl
  records_same [] (w ∷ ws) fv fw l e = absurd (omega arith)
  records_same (v ∷ vs) [] fv fw l e = absurd (omega arith)
  records_same (v ∷ vs) (w ∷ ws) fv fw l e =
      let one = append_same (bytes v.label) (bytes w.label) _ _ (laws.long v.label ∙ sym (laws.long w.label)) e in
      let two = append_same (be4 v.zero) (be4 w.zero) _ _ refl one.1 in
      let three = append_same (be4 v.one) (be4 w.one) _ _ refl two.1 in
      let a : v.label ≡ w.label = symbol_same v.label w.label one.0 in
      let z : v.zero ≡ w.zero = be4_same v.zero w.zero fv.0 fw.0 two.0 in
      let o : v.one ≡ w.one = be4_same v.one w.one fv.1 fw.1 three.0 in
      let rest : vs ≡ ws = records_same vs ws fv.2 fw.2 (omega arith) three.1 in
      λ i. record { label = a i; zero = z i; one = o i } ∷ rest i

  dispatch_same : (d e : Drawing S) → Fit d.drawn → Fit e.drawn → length d.drawn < 2 ^ 32 → length e.drawn < 2 ^ 32 → d.root < 2 ^ 32 → e.root < 2 ^ 32 →
      dispatch kind width bytes d ≡ dispatch kind width bytes e → d ≡ e
  dispatch_same d e fd fe ld le rd re p =
      let one = append_same (be4 (14 + length d.drawn * (width + 8))) (be4 (14 + length e.drawn * (width + 8))) _ _ refl p in
      let q = tail_same refl (tail_same refl one.1) in
      let two = append_same (be4 (length d.drawn)) (be4 (length e.drawn)) _ _ refl q in
      let three = append_same (be4 d.root) (be4 e.root) _ _ refl two.1 in
      let l = be4_same (length d.drawn) (length e.drawn) ld le two.0 in
      let r = be4_same d.root e.root rd re three.0 in
      let v = records_same d.drawn e.drawn fd fe l three.1 in
      λ i. record { drawn = v i; root = r i }

module _ {S : Type 0} (before : S → S → Bool) (order : Order before) where
  fit_all : (vs : List (Vertex S)) → ((k : ℕ) (v : Vertex S) → slice_get vs k ≡ Some v → (v.zero < 2 ^ 32) × (v.one < 2 ^ 32)) → Fit vs
  fit_all [] small = tt
  fit_all (v ∷ vs) small = let h = small 0 v refl in (h.0, h.1, fit_all vs (λ k w e. small (suc k) w e))

  fit : (vs : List (Vertex S)) → Formed before vs → length vs ≤ 1000000 → Fit vs
  fit vs f short =
      fit_all vs
      (λ k v e.
      let g : Good vs (suc (suc k)) = vertex_good vs (suc (suc k)) v e in
      let z = f.zero_below (suc (suc k)) v e in
      let o = f.one_below (suc (suc k)) v e in
      (omega arith, omega arith))

  -- no more is written of a list than a row that has it holds
  pub written_short : (vs : List (Vertex S)) → Formed before vs → (n : ℕ) → Good vs n → length (fresh before (codes vs n)).drawn ≤ length vs
  written_short vs f n g =
      let t = codes vs n in
      let p = formed_proper before order vs f n g in
      let l = written before order t p in
      let ds = (fresh before t).drawn in
      let many = subst (λ u. Counts (Reached ds (fresh before t).root) (length (lay before [] u))) l.is (reached_many before order ds l.sound (fresh before t).root l.good) in
      let few = at_least before order ds vs l.sound f.later (fresh before t).root (length (lay before [] t)) many n (same_lists before order ds vs l.sound.formed f (fresh before t).root n l.good g l.is) in
      omega (arith, written_long before order t p)

  module _ (kind width : ℕ) (bytes : S → List ℕ) (reads : List ℕ → Result S SymbolFault) (laws : WireLaws (record { kind = kind; width = width; bytes = bytes; reads = reads })) where
    -- equal bytes are of equal vertices and roots
    drawings_same : (d e : Drawing S) → Formed before d.drawn → Formed before e.drawn → length d.drawn ≤ 1000000 → length e.drawn ≤ 1000000 →
        Good d.drawn d.root → Good e.drawn e.root → dispatch kind width bytes d ≡ dispatch kind width bytes e → d ≡ e
    drawings_same d e fd fe ld le gd ge p =
        dispatch_same kind width bytes reads laws d e (fit d.drawn fd ld) (fit e.drawn fe le) (omega arith) (omega arith) (omega arith) (omega arith) p

    pub dispatches_alike : (vs ws : List (Vertex S)) → Sound before vs → Sound before ws → length vs ≤ 1000000 → length ws ≤ 1000000 →
        (m n : ℕ) → Good vs m → Good ws n →
        (dispatch kind width bytes (fresh before (codes vs m)) ≡ dispatch kind width bytes (fresh before (codes ws n))) ↔ SameCodes vs m ws n
    dispatches_alike vs ws sv sw lv lw m n gm gn =
        let alike = written_alike before order vs ws sv sw m n gm gn in
        let v = written before order (codes vs m) (codes_proper before order vs sv m gm) in
        let w = written before order (codes ws n) (codes_proper before order ws sw n gn) in
        let kv = written_short vs sv.formed m gm in
        let kw = written_short ws sw.formed n gn in (
          λ e. alike.0 (drawings_same (fresh before (codes vs m)) (fresh before (codes ws n)) v.sound.formed w.sound.formed (omega arith) (omega arith) v.good w.good e),
          λ same. ap (dispatch kind width bytes) (alike.1 same),
        )

    -- bytes that read as formed vertices are what writing gives exactly when the vertices are
    pub received : (vs : List (Vertex S)) → Formed before vs → length vs ≤ 1000000 → (root : ℕ) → Good vs root →
        (Different vs × Visits vs 0 root (length vs)) ↔ (dispatch kind width bytes (fresh before (codes vs root)) ≡ dispatch kind width bytes (record { drawn = vs; root = root }))
    received vs f short root g =
        let same = accepted before order vs f root g in
        let l = written before order (codes vs root) (formed_proper before order vs f root g) in
        let few = written_short vs f root g in (
          λ h. ap (dispatch kind width bytes) (same.0 h),
          λ e. same.1 (drawings_same (fresh before (codes vs root)) (record { drawn = vs; root = root }) l.sound.formed f (omega arith) short l.good g e),
        )
