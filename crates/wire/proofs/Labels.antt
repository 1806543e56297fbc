-- The labels of records that were read are read again from their bytes.
use Rattle.std.proofs.Common.{◌≡◌, ℕ, zero, suc, Bool, List, Some, Ok, sym, refl, ap, ◌∙◌, arith}
use Rattle.std.specs.List.{slice_get}
use Rattle.symbols.specs.Wire.{Travel}
use Rattle.ledger.specs.declared.Vertex.{Vertex}
use Rattle.ledger.specs.Diagrams.{look, Good}
use Rattle.ledger.proofs.Canon.{Kind, is_0, is_1, is_vertex, kind}
use Rattle.wire.specs.Records.{label_read, before_read, zero_after, comes_before}

-- the label of each vertex is that of its record
abbrev pub Labels : {S : Type 0} → Travel S → List ℕ → List (Vertex S) → Type 0
Labels {S} t bs vs = (k : ℕ) (v : Vertex S) → slice_get vs k ≡ Some v → label_read t bs k ≡ Ok v.label

module _ {S : Type 0} (before : S → S → Bool) (t : Travel S) (bs : List ℕ) (vs : List (Vertex S)) (labels : Labels t bs vs) where
  pub zero_label : (a : S) (n : ℕ) → Good vs n → zero_after before t bs a n ≡ comes_before before a (look vs n)
  zero_label a zero g = refl
  zero_label a (suc zero) g = refl
  zero_label a (suc (suc k)) g = by (kind vs (suc (suc k)) g)
    where
      by : Kind vs (suc (suc k)) → zero_after before t bs a (suc (suc k)) ≡ comes_before before a (look vs (suc (suc k)))
      by (is_0 e) = absurd (omega arith)
      by (is_1 e) = absurd (omega arith)
      by (is_vertex v p) = ap (before_read before a) (labels k v p) ∙ sym (ap (comes_before before a) p)
