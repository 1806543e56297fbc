-- The lists that any row of vertices draws: as many as the vertices, unchanged by more vertices, each made of those that
-- its links lead to. Nothing here asks that the vertices be sound.
use Rattle.std.proofs.Common.{◌≡◌, ℕ, zero, suc, ◌+◌, ◌<◌, ◌≤◌, Bool, ◌⊎◌, List, [], ◌∷◌, ◌++◌, length, Some, None, sym, refl, ap, ◌∙◌, subst, inl, inr, arith}
use Rattle.std.specs.List.{slice_get}
use Rattle.symbols.specs.Order.{Order}
use Rattle.ledger.specs.Lists.{Codes, none, begun, Member}
use Rattle.ledger.specs.declared.Vertex.{Vertex}
use Rattle.ledger.specs.Diagrams.{look, Has, ends, passes, takes, SameCodes, Good, Formed}
use Rattle.ledger.specs.Ledger.{list_in, draw, lists, codes}
use Rattle.ledger.proofs.Reading.{none_some, some_same}
use Rattle.ledger.proofs.Canon.{Kind, is_0, is_1, is_vertex, kind}
use Rattle.ledger.proofs.Sets.{begun_same}
use Rattle.ledger.proofs.Ends.{length_snoc, get_or_last}
use Rattle.ledger.proofs.Rows.{list_front}

pub draw_append : {S : Type 0} (row : List (Codes S)) (vs ws : List (Vertex S)) → draw row (vs ++ ws) ≡ draw (draw row vs) ws
draw_append row [] ws = refl
draw_append row (v ∷ vs) ws = draw_append _ vs ws

-- a good number without a vertex is a terminal
pub terminal : {S : Type 0} (vs : List (Vertex S)) (n : ℕ) → Good vs n → look vs n ≡ None → (n ≡ 0) ⊎ (n ≡ 1)
terminal vs n g e = by (kind vs n g)
  where
    by : Kind vs n → (n ≡ 0) ⊎ (n ≡ 1)
    by (is_0 p) = inl p
    by (is_1 p) = inr p
    by (is_vertex v p) = absurd (none_some e p)

module _ {S : Type 0} (before : S → S → Bool) (order : Order before) where
  draw_long : (row : List (Codes S)) (vs : List (Vertex S)) → length (draw row vs) ≡ length row + length vs
  draw_long row [] = omega arith
  draw_long row (v ∷ vs) =
      let x = begun v.label (list_in row v.zero) (list_in row v.one) in
      draw_long (row ++ x ∷ []) vs ∙ (let l = length_snoc row x in omega arith)

  -- there are as many lists as vertices
  pub lists_long : (vs : List (Vertex S)) → length (lists vs) ≡ length vs
  lists_long vs = draw_long [] vs ∙ (omega arith)

  draw_old : (row : List (Codes S)) (vs : List (Vertex S)) (n : ℕ) → n ≤ length row + 1 → list_in (draw row vs) n ≡ list_in row n
  draw_old row [] n h = refl
  draw_old row (v ∷ vs) n h =
      let x = begun v.label (list_in row v.zero) (list_in row v.one) in
      let l = length_snoc row x in
      draw_old (row ++ x ∷ []) vs n (omega arith) ∙ list_front before order row (x ∷ []) n h

  -- more vertices change no old number's codes
  pub codes_front : (vs more : List (Vertex S)) (n : ℕ) → Good vs n → codes (vs ++ more) n ≡ codes vs n
  codes_front vs more n g = ap (λ r. list_in r n) (draw_append [] vs more) ∙ draw_old (lists vs) more n (omega (arith, lists_long vs))

  draw_first : (row : List (Codes S)) (v : Vertex S) (vs : List (Vertex S)) → v.zero ≤ length row + 1 → v.one ≤ length row + 1 →
      list_in (draw row (v ∷ vs)) (suc (suc (length row))) ≡ begun v.label (list_in (draw row (v ∷ vs)) v.zero) (list_in (draw row (v ∷ vs)) v.one)
  draw_first row v vs hz ho =
      let x = begun v.label (list_in row v.zero) (list_in row v.one) in
      let l = length_snoc row x in
      draw_old (row ++ x ∷ []) vs (suc (suc (length row))) (omega arith) ∙ get_or_last row x none ∙
      begun_same refl (sym (draw_old row (v ∷ vs) v.zero hz)) (sym (draw_old row (v ∷ vs) v.one ho))

  draw_at : (row : List (Codes S)) (vs : List (Vertex S)) (k : ℕ) (v : Vertex S) → slice_get vs k ≡ Some v → v.zero ≤ length row + k + 1 → v.one ≤ length row + k + 1 →
      list_in (draw row vs) (suc (suc (length row + k))) ≡ begun v.label (list_in (draw row vs) v.zero) (list_in (draw row vs) v.one)
  draw_at row [] k v e hz ho = absurd (none_some refl e)
  draw_at row (w ∷ vs) zero v e hz ho =
      let p : w ≡ v = some_same refl e in
      let q : length row ≡ length row + 0 = omega arith in
      subst (λ k. list_in (draw row (w ∷ vs)) (suc (suc k)) ≡ begun v.label (list_in (draw row (w ∷ vs)) v.zero) (list_in (draw row (w ∷ vs)) v.one)) q
      (subst (λ (u : Vertex S). u.zero ≤ length row + 1 → u.one ≤ length row + 1 →
      list_in (draw row (w ∷ vs)) (suc (suc (length row))) ≡ begun u.label (list_in (draw row (w ∷ vs)) u.zero) (list_in (draw row (w ∷ vs)) u.one)) p
      (draw_first row w vs) (omega arith) (omega arith))
  draw_at row (w ∷ vs) (suc k) v e hz ho =
      let x = begun w.label (list_in row w.zero) (list_in row w.one) in
      let l = length_snoc row x in
      let q : length (row ++ x ∷ []) + k ≡ length row + suc k = omega arith in
      subst (λ m. list_in (draw row (w ∷ vs)) (suc (suc m)) ≡ begun v.label (list_in (draw row (w ∷ vs)) v.zero) (list_in (draw row (w ∷ vs)) v.one)) q
      (draw_at (row ++ x ∷ []) vs k v e (omega arith) (omega arith))

  -- a vertex whose links are below its number has its label's codes and the others
  pub codes_unfold : (vs : List (Vertex S)) (n : ℕ) (v : Vertex S) → look vs n ≡ Some v → v.zero < n → v.one < n →
      codes vs n ≡ begun v.label (codes vs v.zero) (codes vs v.one)
  codes_unfold vs zero v e hz ho = absurd (none_some refl e)
  codes_unfold vs (suc zero) v e hz ho = absurd (none_some refl e)
  codes_unfold vs (suc (suc k)) v e hz ho =
      let q : 0 + k ≡ k = omega arith in
      subst (λ m. codes vs (suc (suc m)) ≡ begun v.label (codes vs v.zero) (codes vs v.one)) q (draw_at [] vs k v e (omega arith) (omega arith))

  pub codes_formed : (vs : List (Vertex S)) → Formed before vs → (n : ℕ) (v : Vertex S) → look vs n ≡ Some v →
      codes vs n ≡ begun v.label (codes vs v.zero) (codes vs v.one)
  codes_formed vs f n v e = codes_unfold vs n v e (f.zero_below n v e) (f.one_below n v e)

  -- the codes read off well formed vertices are the members of the list
  pub formed_member : (vs : List (Vertex S)) → Formed before vs → {n : ℕ} {c : List S} → Has vs n c → Member (codes vs n) c
  formed_member vs f (ends e g) = rw e g
  formed_member vs f {n} {c} (passes v p h) = rw (codes_formed vs f n v p) (inl (formed_member vs f h))
  formed_member vs f {n} {c} (takes v rest p e h) = rw (codes_formed vs f n v p) (inr (rest, e, formed_member vs f h))

  member_upto : (vs : List (Vertex S)) → Formed before vs → (b n : ℕ) → n < b → Good vs n → (c : List S) → Member (codes vs n) c → Has vs n c
  member_upto vs f zero n h g c m = absurd (omega arith)
  member_upto vs f (suc b) n h g c m = by (kind vs n g) (member_upto vs f b)
    where
      by : Kind vs n → ((k : ℕ) → k < b → Good vs k → (c : List S) → Member (codes vs k) c → Has vs k c) → Has vs n c
      by (is_0 e) below = absurd (rw e at m)
      by (is_1 e) below = ends e (rw e at m)
      by (is_vertex v p) below = split (rw (codes_formed vs f n v p) at m)
        where
          split : Member (begun v.label (codes vs v.zero) (codes vs v.one)) c → Has vs n c
          split (inl k) = let z = f.zero_below n v p in passes v p (below v.zero (omega arith) (omega arith) c k)
          split (inr k) = let o = f.one_below n v p in takes v k.0 p k.1 (below v.one (omega arith) (omega arith) k.0 k.2)

  pub member_formed : (vs : List (Vertex S)) → Formed before vs → (n : ℕ) → Good vs n → (c : List S) → Member (codes vs n) c → Has vs n c
  member_formed vs f n g c m = member_upto vs f (suc n) n (omega arith) g c m

  -- equal lists have the same codes
  pub same_lists : (vs ws : List (Vertex S)) → Formed before vs → Formed before ws → (m n : ℕ) → Good vs m → Good ws n → codes vs m ≡ codes ws n → SameCodes vs m ws n
  same_lists vs ws fv fw m n gm gn e c = (
    λ h. member_formed ws fw n gn c (subst (λ t. Member t c) e (formed_member vs fv h)),
    λ h. member_formed vs fv m gm c (subst (λ t. Member t c) (sym e) (formed_member ws fw h)),
  )
