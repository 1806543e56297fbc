-- What stands at an index of records, of the front of a list, of a list with one place written.
use Rattle.std.proofs.Common.{◌≡◌, ℕ, zero, suc, ◌+◌, ◌-◌, ◌<◌, ◌≤◌, List, [], ◌∷◌, ◌++◌, map, length, get_or, take, drop, set, Some, sym, refl, ap, ◌∙◌, arith}
use Rattle.std.specs.List.{slice_get}
use Rattle.std.specs.Option.{option_map}
use Rattle.std.proofs.lemmas.List.{length-append, length-drop, length-map, length-set, length-take, get_or-drop, get_or-map, get_or-set_same, get_or-take, take-take}
use Rattle.std.proofs.Math.Seq.{take-append_seam, get_or-append_seam}
use Rattle.std.proofs.lemmas.Option.{get_or_from_slice_get, slice_get-get_or, slice_get-map, slice_get_read, slice_get_within}
use Rattle.ledger.specs.declared.Vertex.{Vertex}
use Rattle.ledger.specs.Diagrams.{look}
use Rattle.bucket_shelf.specs.declared.Entry.{Entry}
use Rattle.bucket_shelf.specs.Chains.{vertex_of, vertices_in}

module _ {X : Type 0} where
  -- what stands in the front stands in the whole, and back
  pub nth_whole : (xs : List X) (u k : ℕ) (x : X) → slice_get (take u xs) k ≡ Some x → (k < u) × (slice_get xs k ≡ Some x)
  nth_whole xs u k x e =
      let h : k < length (take u xs) = slice_get_within (take u xs) k x e in
      let l : k < u = omega (arith, length-take u xs) in
      (l, slice_get-get_or xs k x (omega (arith, length-take u xs)) ∙ ap Some (sym (get_or-take u xs k x l) ∙ get_or_from_slice_get (take u xs) k x x e))

  pub nth_part : (xs : List X) (u k : ℕ) (x : X) → k < u → slice_get xs k ≡ Some x → slice_get (take u xs) k ≡ Some x
  nth_part xs u k x h e =
      let l = slice_get_within xs k x e in
      slice_get-get_or (take u xs) k x (omega (arith, length-take u xs)) ∙ ap Some (get_or-take u xs k x h ∙ get_or_from_slice_get xs k x x e)

  pub nth_map : {Y : Type 0} (f : X → Y) (xs : List X) (k : ℕ) (x : X) → slice_get xs k ≡ Some x → slice_get (map f xs) k ≡ Some (f x)
  nth_map f xs k x e = slice_get-map f xs k ∙ ap (option_map f) e

  pub nth_set_other : (xs : List X) (i k : ℕ) (y : X) → (k ≡ i → ⊥) → slice_get (set xs i y) k ≡ slice_get xs k
  nth_set_other [] i k y h = refl
  nth_set_other (x ∷ xs) zero zero y h = absurd (h refl)
  nth_set_other (x ∷ xs) zero (suc k) y h = refl
  nth_set_other (x ∷ xs) (suc i) zero y h = refl
  nth_set_other (x ∷ xs) (suc i) (suc k) y h = nth_set_other xs i k y (λ e. h (ap suc e))

  pub nth_set_same : (xs : List X) (i : ℕ) (y : X) → i < length xs → slice_get (set xs i y) i ≡ Some y
  nth_set_same xs i y h = slice_get-get_or (set xs i y) i y (omega (arith, length-set xs i y)) ∙ ap Some (get_or-set_same xs i y y h)

-- what is left of the entries from `low` on, and the last of it
module _ {X : Type 0} (xs left rest : List X) (x : X) (low : ℕ) (is : left ≡ take (length left) (drop low xs)) (last : left ≡ rest ++ x ∷ []) where
  one_more : length left ≡ length rest + 1
  one_more = ap length last ∙ length-append rest (x ∷ [])

  pub front_less : rest ≡ take (length rest) (drop low xs)
  front_less =
      sym (take-append_seam rest (x ∷ [])) ∙ ap (take (length rest)) (sym last ∙ is) ∙
      take-take (length rest) (length left) (drop low xs) (omega (arith, one_more))

  pub front_last : slice_get xs (low + length rest) ≡ Some x
  front_last =
      let long : length left ≤ length xs - low = omega (arith, ap length is, length-take (length left) (drop low xs), length-drop low xs) in
      slice_get-get_or xs (low + length rest) x (omega (arith, one_more)) ∙
      ap Some
      (sym (get_or-drop low xs (length rest) x) ∙
      sym (get_or-take (length left) (drop low xs) (length rest) x (omega (arith, one_more))) ∙
      ap (λ l. get_or l (length rest) x) (sym is ∙ last) ∙
      get_or-append_seam rest x [] x)

module _ {S : Type 0} where
  pub look_at : (vs : List (Vertex S)) (n : ℕ) → 2 ≤ n → look vs n ≡ slice_get vs (n - 2)
  look_at vs zero h = absurd (omega arith)
  look_at vs (suc zero) h = absurd (omega arith)
  look_at vs (suc (suc k)) h = let z : suc (suc k) - 2 ≡ k = omega arith in rw z refl

  -- records and their vertices
  pub length_vertices : (es : List (Entry S)) → length (vertices_in es) ≡ length es
  length_vertices es = length-map es vertex_of

  pub nth_entry : (es : List (Entry S)) (i : ℕ) (e : Entry S) → i < length es → e ≡ get_or es i e → slice_get es i ≡ Some e
  nth_entry es i e h p = slice_get_read es (length es) i e refl h p

  pub get_or_vertices : (es : List (Entry S)) (i : ℕ) (e : Entry S) → i < length es → e ≡ get_or es i e → e.vertex ≡ get_or (vertices_in es) i e.vertex
  get_or_vertices es i e h p = ap vertex_of p ∙ sym (get_or-map vertex_of es i e e.vertex h)
