-- What `look` answers, as a vertex.
use Rattle.std.proofs.Common.{◌≡◌, ℕ, ◌-◌, ◌<◌, min, List, Some, None, Option, refl, arith}
use Rattle.std.specs.Option.{option_map}
use Rattle.ledger.specs.declared.Vertex.{Vertex}
use Rattle.ledger.specs.Diagrams.{look, parts}

pub looked : {S : Type 0} (vs : List (Vertex S)) (n : ℕ) (t : S × ℕ × ℕ) → Some t ≡ option_map parts (look vs n) →
    (v : Vertex S) × (look vs n ≡ Some v) × (t ≡ parts v)
looked {S} vs n t e = by (look vs n) refl e
  where
    by : (o : Option (Vertex S)) → look vs n ≡ o → Some t ≡ option_map parts o → (v : Vertex S) × (look vs n ≡ Some v) × (t ≡ parts v)
    by None p q = let z : ◌≡◌ {A = ℕ} 0 1 = cc in absurd (omega arith)
    by (Some v) p q = (v, p, cc)

pub unlooked : {S : Type 0} (vs : List (Vertex S)) (n : ℕ) → None ≡ option_map parts (look vs n) → look vs n ≡ None
unlooked {S} vs n e = by (look vs n) refl e
  where
    by : (o : Option (Vertex S)) → look vs n ≡ o → None ≡ option_map parts o → look vs n ≡ None
    by None p q = p
    by (Some v) p q = let z : ◌≡◌ {A = ℕ} 0 1 = cc in absurd (omega arith)

-- a link that is below n is not held back
pub not_held : (link n top : ℕ) → link < n → top ≡ n - 1 → min link top ≡ link
not_held link n top h e = omega arith
