-- The longest code of a list, from its outer and its inner list.
use Rattle.std.proofs.Common.{◌≡◌, ℕ, zero, suc, ◌+◌, ◌<◌, ◌≤◌, min, max, Bool, ◌⊎◌, ◌↔◌, List, [], ◌∷◌, length, Some, refl, ap, ◌∙◌, inl, inr, arith}
use Rattle.std.specs.List.{slice_get}
use Rattle.std.proofs.lemmas.Bool.{cases_lt}
use Rattle.symbols.specs.Order.{Order}
use Rattle.ledger.specs.declared.Vertex.{Vertex}
use Rattle.ledger.specs.Lists.{Codes, none, blank, begun, Member, SomeCode, Proper}
use Rattle.ledger.specs.Diagrams.{Formed}
use Rattle.ledger.specs.Ledger.{codes}
use Rattle.ledger.proofs.Draws.{codes_formed}
use Rattle.memory.specs.declared.work.Place.{Place}
use Rattle.receiving.specs.Lengths.{Long, longest, length_in, Measured}

module _ {S : Type 0} where
  pub no_longer : (t : Codes S) (c : List S) → Member t c → length c ≤ longest t
  no_longer none c m = absurd m
  no_longer blank c m = let e = ap length m in omega arith
  no_longer (begun a z o) c (inl m) = let h = no_longer z c m in omega arith
  no_longer (begun a z o) c (inr m) = let h = no_longer o m.0 m.2 in let e = ap length m.1 in omega arith

  some_length : (t : Codes S) → 0 < longest t → SomeCode t
  some_length none h = absurd (omega arith)
  some_length blank h = tt
  some_length (begun a z o) h = tt

  attained : (before : S → S → Bool) (t : Codes S) → Proper before t → SomeCode t → (c : List S) × Member t c × (longest t ≤ length c)
  attained before none p s = absurd s
  attained before blank p s = ([], refl, omega arith)
  attained before (begun a z o) p s = by (cases_lt (suc (longest o)) (longest z)) (attained before z p.2) (attained before o p.3 p.1)
    where
      by : (suc (longest o) < longest z) ⊎ (longest z ≤ suc (longest o)) → (SomeCode z → (c : List S) × Member z c × (longest z ≤ length c)) → (c : List S) × Member o c × (longest o ≤ length c) →
          (c : List S) × Member (begun a z o) c × (longest (begun a z o) ≤ length c)
      by (inl h) outer inner =
          let r = outer (some_length z (omega arith)) in
          let l = r.2 in
          (r.0, inl r.1, omega arith)
      by (inr h) outer inner = let l = inner.2 in (a ∷ inner.0, inr (inner.0, refl, inner.1), omega arith)

  pub long_is : (before : S → S → Bool) (t : Codes S) → Proper before t → (64 < longest t) ↔ Long t
  long_is before t p = (
    λ h. let r = attained before t p (some_length t (omega arith)) in let l = r.2 in (r.0, r.1, omega arith),
    λ r. let h = no_longer t r.0 r.1 in let l = r.2 in omega arith,
  )

  -- what the places hold of a link
  pub held : (ds : List (Vertex S)) (k n : ℕ) (work : List Place) → Measured ds k work → n < k + 2 → length_in work n ≡ min (longest (codes ds n)) 65
  held ds k zero work m h = refl
  held ds k (suc zero) work m h = refl
  held ds k (suc (suc j)) work m h = m j (omega arith)

  pub measured_one : (before : S → S → Bool) (order : Order before) (ds : List (Vertex S)) → Formed before ds → (k : ℕ) (v : Vertex S) (work : List Place) (outer inner r : ℕ) → slice_get ds k ≡ Some v → Measured ds k work →
      outer ≡ length_in work v.zero → inner ≡ length_in work v.one → r ≡ max outer (min (inner + 1) 65) → r ≡ min (longest (codes ds (suc (suc k)))) 65
  measured_one before order ds f k v work outer inner r at m p q e =
      let lz = f.zero_below (suc (suc k)) v at in
      let lo = f.one_below (suc (suc k)) v at in
      let z : outer ≡ min (longest (codes ds v.zero)) 65 = p ∙ held ds k v.zero work m (omega arith) in
      let o : inner ≡ min (longest (codes ds v.one)) 65 = q ∙ held ds k v.one work m (omega arith) in
      let is : longest (codes ds (suc (suc k))) ≡ max (longest (codes ds v.zero)) (suc (longest (codes ds v.one))) = ap longest (codes_formed before order ds f (suc (suc k)) v at) in
      omega arith
