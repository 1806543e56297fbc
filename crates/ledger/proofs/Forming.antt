-- The lists of well formed vertices, which need not be different.
use Rattle.std.proofs.Common.{◌≡◌, ℕ, zero, suc, ◌<◌, Bool, ◌↔◌, List, [], length, Some, refl, ap, subst, arith}
use mathlib.Core.Path.{subst⁻¹}
use Rattle.symbols.specs.Order.{Order}
use Rattle.ledger.specs.Lists.{begun, Comes, SomeCode, Proper}
use Rattle.ledger.specs.declared.Vertex.{Vertex}
use Rattle.ledger.specs.Diagrams.{look, Good, Formed, Different, Sound}
use Rattle.ledger.specs.Ledger.{codes, Drawing, fresh}
use Rattle.ledger.specs.Visits.{Visits}
use Rattle.ledger.proofs.Canon.{Kind, is_0, is_1, is_vertex, kind}
use Rattle.ledger.proofs.Rows.{empty_row, lay_ledger}
use Rattle.ledger.proofs.Draws.{codes_formed}
use Rattle.ledger.proofs.Gathering.{ledger_sound}
use Rattle.ledger.proofs.Visiting.{received}

module _ {S : Type 0} (before : S → S → Bool) (order : Order before) where
  proper_upto : (vs : List (Vertex S)) → Formed before vs → (b n : ℕ) → n < b → Good vs n → Proper before (codes vs n)
  proper_upto vs s zero n h g = absurd (omega arith)
  proper_upto vs s (suc b) n h g = by (kind vs n g) (proper_upto vs s b)
    where
      unfolds : (n : ℕ) (v : Vertex S) → look vs n ≡ Some v → codes vs n ≡ begun v.label (codes vs v.zero) (codes vs v.one)
      unfolds = codes_formed before order vs s

      comes : (v : Vertex S) → look vs n ≡ Some v → Kind vs v.zero → Comes before v.label (codes vs v.zero)
      comes v p (is_0 e) = rw e tt
      comes v p (is_1 e) = rw e tt
      comes v p (is_vertex w q) = rw (unfolds v.zero w q) (s.later n v w p q)

      some : (v : Vertex S) → look vs n ≡ Some v → Kind vs v.one → SomeCode (codes vs v.one)
      some v p (is_0 e) = absurd (s.one_not_0 n v p e)
      some v p (is_1 e) = rw e tt
      some v p (is_vertex w q) = rw (unfolds v.one w q) tt

      by : Kind vs n → ((k : ℕ) → k < b → Good vs k → Proper before (codes vs k)) → Proper before (codes vs n)
      by (is_0 e) below = rw e tt
      by (is_1 e) below = rw e tt
      by (is_vertex v p) below =
          let z = s.zero_below n v p in
          let o = s.one_below n v p in
          subst⁻¹ (Proper before) (unfolds n v p)
          (comes v p (kind vs v.zero (omega arith)), some v p (kind vs v.one (omega arith)), below v.zero (omega arith) (omega arith), below v.one (omega arith) (omega arith))

  pub formed_proper : (vs : List (Vertex S)) → Formed before vs → (n : ℕ) → Good vs n → Proper before (codes vs n)
  formed_proper vs s n g = proper_upto vs s (suc n) n (omega arith) g

  pub accepted : (vs : List (Vertex S)) → Formed before vs → (root : ℕ) → Good vs root →
      (Different vs × Visits vs 0 root (length vs)) ↔ (fresh before (codes vs root) ≡ record { drawn = vs; root = root })
  accepted vs s root g = (there, back)
    where
      sound : Different vs → Sound before vs
      sound d = record { formed = s; different = d }

      there : Different vs × Visits vs 0 root (length vs) → fresh before (codes vs root) ≡ record { drawn = vs; root = root }
      there h = (received before order vs (sound h.0) root g).0 h.1

      back : fresh before (codes vs root) ≡ record { drawn = vs; root = root } → Different vs × Visits vs 0 root (length vs)
      back e =
          let L = lay_ledger before order [] (codes vs root) (empty_row refl) (formed_proper vs s root g) in
          let t : Sound before vs = subst (Sound before) (ap (λ (x : Drawing S). x.drawn) e) (ledger_sound before order L) in
          (t.different, (received before order vs t root g).1 e)
