-- What stands at an index of records: the vertex with the number i + 2.
use Rattle.std.proofs.Common.{◌≡◌, ℕ, ◌+◌, ◌-◌, ◌<◌, ◌≤◌, List, map, length, get_or, Some, refl, ap, ◌∙◌, subst, arith}
use Rattle.std.proofs.lemmas.Option.{slice_get-map, slice_get_read}
use Rattle.std.specs.Option.{option_map}
use Rattle.ledger.specs.declared.Vertex.{Vertex}
use Rattle.ledger.specs.Diagrams.{look}
use Rattle.memory.proofs.Gathers.{look_at}

module _ {S T : Type 0} (f : T → Vertex S) (xs : List T) where
  pub look_index : (i : ℕ) (x : T) → i < length xs → x ≡ get_or xs i x → look (map f xs) (i + 2) ≡ Some (f x)
  look_index i x h e =
      look_at (map f xs) i ∙ slice_get-map f xs i ∙ ap (option_map f) (slice_get_read xs (length xs) i x refl h e)

  pub look_number : (n : ℕ) (x : T) → 2 ≤ n → n - 2 < length xs → x ≡ get_or xs (n - 2) x → look (map f xs) n ≡ Some (f x)
  look_number n x low h e =
      let back : n - 2 + 2 ≡ n = omega arith in
      let P : ℕ → Type 0 = λ k. look (map f xs) k ≡ Some (f x) in
      subst P back (look_index (n - 2) x h e)
