-- The tasks of a walk: what doing one comes to, and that fewer steps are left.
use Rattle.std.proofs.Common.{◌≡◌, ℕ, zero, suc, ◌+◌, ◌-◌, ◌<◌, ◌≤◌, ◌↔◌, List, ◌∷◌, length, Some, refl, subst, arith}
use mathlib.Core.Path.{subst⁻¹}
use Rattle.ledger.specs.declared.Vertex.{Vertex}
use Rattle.ledger.specs.Diagrams.{look}
use Rattle.ledger.specs.Visits.{Visits, passed, comes_to}
use Rattle.ledger.proofs.Reading.{some_same}
use Rattle.memory.specs.declared.work.Place.{Place}
use Rattle.receiving.specs.Walks.{place_of, Reaches, Fits, weigh, task_cost, cost, Does, Rest, Leads}
use Rattle.receiving.specs.declared.visiting.Task.{Task}
use Rattle.receiving.specs.declared.visiting.Task.TheVariants.{Visit, Close}

-- steps left
weigh_pos : (n : ℕ) → 1 ≤ weigh n
unfolding weigh
weigh_pos zero = omega arith
weigh_pos (suc n) = omega arith

weigh_add : (m n : ℕ) → weigh m ≤ weigh (n + m)
unfolding weigh
weigh_add m zero = let q : m ≡ 0 + m = omega arith in subst (λ (k : ℕ). weigh m ≤ weigh k) q (omega arith)
weigh_add m (suc n) =
    let h = weigh_add m n in
    let q : suc (n + m) ≡ suc n + m = omega arith in
    subst (λ (k : ℕ). weigh m ≤ weigh k) q (twice (weigh (n + m)) h)
  where
    twice : (w : ℕ) → weigh m ≤ w → weigh m ≤ w + w + 2
    twice w h = omega arith

weigh_up : (m n : ℕ) → m ≤ n → weigh m ≤ weigh n
weigh_up m n h = let q : (n - m) + m ≡ n = omega arith in subst (λ (k : ℕ). weigh m ≤ weigh k) q (weigh_add m (n - m))

weigh_step : (a b n : ℕ) → a < n → b < n → 1 + weigh a + weigh b < weigh n
unfolding weigh
weigh_step a b zero h k = absurd (omega arith)
weigh_step a b (suc n) h k =
    let p = weigh_up a n (omega arith) in
    let q = weigh_up b n (omega arith) in
    omega arith

pub task_some : (t : Task) → 1 ≤ task_cost t
task_some (Visit n) = weigh_pos n
task_some (Close n) = omega arith

module _ {S : Type 0} (vs : List (Vertex S)) (k : ℕ) where
  -- a number that was passed already
  does_passed : (n d : ℕ) (next : ℕ → Type 0) → n < suc (suc d) → Does vs (Visit n) d next ↔ next d
  does_passed n d next h = (λ r. there r.0 r.1 r.2, λ r. (d, passed h refl, r))
    where
      there : (j : ℕ) → Visits vs d n j → next j → next d
      there j (passed l e) r = subst⁻¹ next e r
      there j (comes_to v i m p l wz wo e f) r = absurd (omega arith)

  -- a vertex: its links, then itself
  does_vertex : (n d : ℕ) (next : ℕ → Type 0) (v : Vertex S) → suc (suc d) ≤ n → look vs n ≡ Some v →
      Does vs (Visit n) d next ↔ Does vs (Visit v.zero) d (λ a. Does vs (Visit v.one) a (λ b. Does vs (Close n) b next))
  does_vertex n d next v h at = (λ r. there r.0 r.1 r.2, λ r. (suc r.2.0, comes_to v r.0 r.2.0 at h r.1 r.2.1 r.2.2.0 refl, r.2.2.1))
    where
      there : (j : ℕ) → Visits vs d n j → next j → Does vs (Visit v.zero) d (λ a. Does vs (Visit v.one) a (λ b. Does vs (Close n) b next))
      there j (passed l e) r = absurd (omega arith)
      there j (comes_to w i m p l wz wo e f) r =
          let is : w ≡ v = some_same p at in (
            i,
            subst (λ (x : Vertex S). Visits vs d x.zero i) is wz,
            (m, subst (λ (x : Vertex S). Visits vs i x.one m) is wo, (e, subst⁻¹ next f r)),
          )

  -- the four ways of a task
  module _ (ps : List Place) (n d : ℕ) where
    pub leads_passed : n < suc (suc d) → Leads vs k (Visit n) d ps (Some d) ps
    leads_passed h = does_passed n d (λ j. Rest vs k ps j) h

    pub leads_vertex : suc (suc d) ≤ n → (v : Vertex S) → look vs n ≡ Some v → (after : List Place) → after ≡ place_of (Visit v.zero) ∷ place_of (Visit v.one) ∷ place_of (Close n) ∷ ps →
        Leads vs k (Visit n) d ps (Some d) after
    leads_vertex h v at after e = subst⁻¹ (λ qs. Does vs (Visit n) d (λ j. Rest vs k ps j) ↔ Rest vs k qs d) e (does_vertex n d (λ j. Rest vs k ps j) v h at)

-- room and steps left
pub down_push : (room n low high : ℕ) (ps after : List Place) → Reaches room (length ps) (Visit n) → Fits room ps → low < n → high < n →
    after ≡ place_of (Visit low) ∷ place_of (Visit high) ∷ place_of (Close n) ∷ ps → Fits room after × (cost after < weigh n + cost ps)
down_push room n low high ps after r f lz lo e =
    let w = weigh_step high low n lo lz in
    subst⁻¹ (λ qs. Fits room qs × (cost qs < weigh n + cost ps)) e ((omega arith, (omega arith, (tt, f))), omega arith)
