-- A frame makes its list: the vertex is found or appended, and the list is laid down then.
use Rattle.std.proofs.Common.{◌≡◌, ℕ, suc, ◌<◌, ◌≤◌, Bool, ◌≢◌, List, [], ◌∷◌, ◌++◌, length, get_or, Some, None, Ok, Err, Result, sym, refl, ap, ◌∙◌, subst, inl, inr, append_assoc, arith, length-append}
use mathlib.Core.Path.{subst⁻¹}
use Rattle.std.proofs.lemmas.Option.{slice_get_read, slice_get_past}
use Rattle.std.specs.Option.{option_map}
use Rattle.symbols.specs.Order.{Order}
use Rattle.ledger.specs.declared.Vertex.{Vertex}
use Rattle.ledger.specs.Lists.{Codes, none, blank, begun, SomeCode, Proper}
use Rattle.ledger.specs.Diagrams.{look, parts, Good, Sound}
use Rattle.ledger.specs.Laid.{Laid}
use Rattle.ledger.specs.Ledger.{lay, lists, codes}
use Rattle.ledger.specs.Operations.{make}
use Rattle.ledger.proofs.Reading.{some_same, none_some}
use Rattle.ledger.proofs.Ends.{length_snoc}
use Rattle.ledger.proofs.Rows.{known_list, lay_known}
use Rattle.ledger.proofs.Draws.{codes_front}
use Rattle.ledger.proofs.Drawn.{look_front, pictured}
use Rattle.ledger.proofs.Laying.{laid_known, laid_found, laid_append}
use Rattle.memory.specs.declared.shelf.Full.{Full}
use Rattle.memory.specs.Shelves.{vertex, FoundOrAppended}
use Rattle.memory.proofs.Looks.{unlooked}
use Rattle.paths.specs.declared.frames.Frame.TheVariants.{Zero, One}
use Rattle.paths.specs.Waiting.{Makes, Begins, Settled}
use Rattle.paths.proofs.Seeing.{number_is, seen, looked_seen}
use Rattle.paths.proofs.Along.{make_some}

module _ {S : Type 0} (before : S → S → Bool) (order : Order before) where
  -- more vertices change no list that had a number
  codes_kept : (vs us : List (Vertex S)) → Begins vs us → (n : ℕ) → Good vs n → codes us n ≡ codes vs n
  codes_kept vs us b n g = ap (λ x. codes x n) b.1 ∙ codes_front before order vs b.0 n g

  good_front : (vs us : List (Vertex S)) → Begins vs us → (n : ℕ) → Good vs n → Good us n
  good_front vs us b n g = let l = ap length b.1 ∙ length-append vs b.0 in omega arith

  module _ (vs us : List (Vertex S)) (sound : Sound before vs) (begins : Begins vs us) where
    -- with its outer and its inner list laid down
    settle : (mid : List (Vertex S)) (z o : Codes S) (rz ro : ℕ) → Laid before vs z mid rz → Laid before mid o us ro → (a : S) → Proper before (begun a z o) →
        (capacity : ℕ) (r : Result ℕ Full) (ws : List (Vertex S)) → FoundOrAppended capacity us (vertex a rz ro) r ws → Settled before capacity vs (begun a z o) r ws
    settle mid z o rz ro outer inner a proper capacity r ws (inl f) =
        subst⁻¹ (λ x. Settled before capacity vs (begun a z o) x ws) f.2
        (subst⁻¹ (λ x. Settled before capacity vs (begun a z o) (Ok f.0) x) f.3 (laid_found before order vs mid us sound z o rz ro outer inner a f.0 f.1.0, begins))
    settle mid z o rz ro outer inner a proper capacity (Ok n) ws (inr f) =
        let l = laid_append before order vs mid us sound z o rz ro outer inner a f.0 proper in
        let number : n ≡ suc (suc (length us)) = omega (arith, f.1.2) in (
          subst⁻¹ (λ x. Laid before vs (begun a z o) x n) f.1.1 (subst⁻¹ (Laid before vs (begun a z o) (us ++ vertex a rz ro ∷ [])) number l),
          (begins.0 ++ vertex a rz ro ∷ [], f.1.1 ∙ ap (λ x. x ++ vertex a rz ro ∷ []) begins.1 ∙ append_assoc vs begins.0 (vertex a rz ro ∷ [])),
        )
    settle mid z o rz ro outer inner a proper capacity (Err e) ws (inr f) =
        let l = laid_append before order vs mid us sound z o rz ro outer inner a f.0 proper in
        let P = pictured before order (us ++ vertex a rz ro ∷ []) l.sound in
        let long : length (lay before (lists vs) (begun a z o)) ≡ suc (length us) = ap length (sym l.row) ∙ P.long ∙ length_snoc us (vertex a rz ro) in
        (omega (arith, f.1.0), (begins.0, f.1.1 ∙ begins.1))

    module _ (t : Codes S) (n : ℕ) (laid : Laid before vs t us n) (u : Codes S) (proper : Proper before u) (capacity : ℕ) (r : Result ℕ Full) (ws : List (Vertex S)) where
      -- a vertex with another zero link
      grow_zero : (v : Vertex S) → Good vs v.one → u ≡ begun v.label t (codes vs v.one) → FoundOrAppended capacity us (vertex v.label n v.one) r ws → Settled before capacity vs u r ws
      grow_zero v g e f =
          let inner = subst (λ x. Laid before us x us v.one) (codes_kept vs us begins v.one g) (laid_known before order us laid.sound v.one (good_front vs us begins v.one g)) in
          subst⁻¹ (λ x. Settled before capacity vs x r ws) e
          (settle us t (codes vs v.one) n v.one laid inner v.label (subst (Proper before) e proper) capacity r ws f)

      some_code : n ≢ 0 → SomeCode t
      some_code apart = by t refl
        where
          by : (x : Codes S) → t ≡ x → SomeCode x
          by none e = absurd (apart (number_is before order us laid.sound n laid.good none (laid.is ∙ e)))
          by blank e = tt
          by (begun a z o) e = tt

      -- a vertex with this symbol and this zero link
      grow_one : (s : S) (m : ℕ) → Good vs m → u ≡ make s (codes vs m) t → n ≢ 0 → FoundOrAppended capacity us (vertex s m n) r ws → Settled before capacity vs u r ws
      grow_one s m g e apart f =
          let same : u ≡ begun s (codes vs m) t = e ∙ make_some s (codes vs m) t (some_code apart) in
          subst⁻¹ (λ x. Settled before capacity vs x r ws) same
          (settle vs (codes vs m) t m n (laid_known before order vs sound m g) laid s (subst (Proper before) same proper) capacity r ws f)

    -- nothing inside: the outer list is what remains
    grow_none : (t : Codes S) (n : ℕ) → Laid before vs t us n → (u : Codes S) (s : S) (m : ℕ) → Good vs m → u ≡ make s (codes vs m) t → n ≡ 0 → (capacity : ℕ) → Settled before capacity vs u (Ok m) us
    grow_none t n laid u s m g e zero capacity =
        let nothing : t ≡ none = sym laid.is ∙ ap (codes us) zero in
        let same : u ≡ codes vs m = e ∙ ap (make s (codes vs m)) nothing in
        let P = pictured before order vs sound in (
          record {
            sound = laid.sound;
            row = laid.row ∙ ap (lay before (lists vs)) nothing ∙ sym (lay_known before order (lists vs) (codes vs m) (known_list before order (lists vs) m (omega (arith, P.long)))) ∙ ap (lay before (lists vs)) (sym same);
            good = good_front vs us begins m g;
            is = codes_kept vs us begins m g ∙ sym same;
          },
          begins,
        )

    old_look : (m : ℕ) (v : Vertex S) → look vs m ≡ Some v → look us m ≡ Some v
    old_look m v e = subst⁻¹ (λ x. look x m ≡ Some v) begins.1 (look_front before order vs begins.0 m v e)

    -- what is popped, as a walk reads it
    module _ (t : Codes S) (n : ℕ) (laid : Laid before vs t us n) (u : Codes S) (code : List S) (m : ℕ) where
      pub resume_zero : (l : S) (z o : ℕ) → Some (l, z, o) ≡ option_map parts (look us m) → Makes vs code (Zero m) t u → Proper before u →
          (capacity : ℕ) (r : Result ℕ Full) (ws : List (Vertex S)) → FoundOrAppended capacity us (vertex l n o) r ws → Settled before capacity vs u r ws
      resume_zero l z o e makes proper capacity r ws f =
          let v = makes.0 in
          let same : vertex l z o ≡ v = some_same (seen before order us laid.sound m l z o e).at (old_look m v makes.1) in
          let old = looked_seen before order vs sound m v.label v.zero v.one makes.1 in
          grow_zero t n laid u proper capacity r ws v old.one_good makes.2 (subst (λ x. FoundOrAppended capacity us (vertex x.label n x.one) r ws) same f)

      pub zero_there : None ≡ option_map parts (look us m) → Makes vs code (Zero m) t u → ⊥
      zero_there e makes = none_some (unlooked us m e) (old_look m makes.0 makes.1)

      module _ (spot : ℕ) (makes : Makes vs code (One m spot) t u) where
        pub resume_one : (x : S) → spot < length code → x ≡ get_or code spot x → n ≢ 0 → Proper before u →
            (capacity : ℕ) (r : Result ℕ Full) (ws : List (Vertex S)) → FoundOrAppended capacity us (vertex x m n) r ws → Settled before capacity vs u r ws
        resume_one x h e apart proper capacity r ws f =
            let same : makes.0 ≡ x = some_same makes.1 (slice_get_read code (length code) spot x refl h e) in
            grow_one t n laid u proper capacity r ws x m makes.2 (makes.3 ∙ ap (λ y. make y (codes vs m) t) same) apart f

        pub resume_none : n ≡ 0 → (capacity : ℕ) → Settled before capacity vs u (Ok m) us
        resume_none zero capacity = grow_none t n laid u makes.0 m makes.2 makes.3 zero capacity

        pub symbol_there : length code ≤ spot → ⊥
        symbol_there h = none_some (slice_get_past code spot h) makes.1
