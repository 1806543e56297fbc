-- Gathering as the shelves do it: links that stay make marks that a shelf can gather by, and vertices with the numbers
-- of their places are the vertices renumbered.
use Rattle.std.proofs.Common.{◌≡◌, ℕ, zero, suc, ◌+◌, ◌<◌, ◌≤◌, Bool, true, false, ◌⊎◌, ◌↔◌, List, [], ◌∷◌, map, length, get_or, Some, refl, ap₂, inl, inr, arith}
use Rattle.std.specs.List.{slice_get}
use Rattle.std.proofs.lemmas.List.{length-map}
use Rattle.std.proofs.lemmas.Bool.{cases_Bool, cases_eq, false≢true}
use Rattle.ledger.specs.declared.Vertex.{Vertex}
use Rattle.ledger.specs.Diagrams.{look}
use Rattle.ledger.specs.Gather.{keep, renumbered, gather, Marked, Gatherable}
use Rattle.ledger.proofs.Canon.{vertex_good}
use Rattle.memory.specs.declared.work.Place.{Place}
use Rattle.memory.specs.Marks.{noted_vertex, BothStay, AllStay}
use Rattle.memory.specs.Shelves.{is_mark, marks_in, Renumbered}
use Rattle.memory.proofs.Marking.{noted_new}

-- a number that code counts up to
pub look_at : {S : Type 0} (vs : List (Vertex S)) (i : ℕ) → look vs (i + 2) ≡ slice_get vs i
look_at vs i = let e : i + 2 ≡ suc (suc i) = omega arith in rw e

-- what a test of the number i + 2 says of mark i
pub mark_here : (ms : List Bool) (i : ℕ) (b : Bool) → ((b ≡ true) ↔ Marked ms (i + 2)) → get_or ms i false ≡ b
mark_here ms i b t = by b (rw e at t)
  where
    e : i + 2 ≡ suc (suc i)
    e = omega arith

    by : (b : Bool) → ((b ≡ true) ↔ (get_or ms i false ≡ true)) → get_or ms i false ≡ b
    by true t = t.0 refl
    by false t = either (cases_Bool (get_or ms i false))
      where
        either : (get_or ms i false ≡ true) ⊎ (get_or ms i false ≡ false) → get_or ms i false ≡ false
        either (inl m) = absurd (false≢true (t.1 m))
        either (inr m) = m

-- the links of the vertices below a number stay
abbrev pub StayBelow : {S : Type 0} → List Bool → List (Vertex S) → ℕ → Type 0
StayBelow {S} ms vs end = (n : ℕ) (v : Vertex S) → n < end → look vs n ≡ Some v → BothStay ms n v

module _ {S : Type 0} (ms : List Bool) (vs : List (Vertex S)) where
  none_there : (n : ℕ) (v : Vertex S) → n < 2 → look vs n ≡ Some v → ⊥
  none_there zero v h e = let z : ◌≡◌ {A = ℕ} 0 1 = cc in omega arith
  none_there (suc zero) v h e = let z : ◌≡◌ {A = ℕ} 0 1 = cc in omega arith
  none_there (suc (suc k)) v h e = absurd (omega arith)

  pub stay_none : StayBelow ms vs 2
  stay_none n v h e = absurd (none_there n v h e)

  pub stay_more : (n : ℕ) (v : Vertex S) → look vs n ≡ Some v → BothStay ms n v → StayBelow ms vs n → StayBelow ms vs (n + 1)
  stay_more n v e b below k w h f = by (cases_eq k n)
    where
      by : (k ≡ n) ⊎ (k ≡ n → ⊥) → BothStay ms k w
      by (inl p) = let f' : look vs n ≡ Some w = rw p at f in let q : v ≡ w = cc in rw (p, ← q) b
      by (inr p) = below k w (omega arith) f

  pub stay_all : (end : ℕ) → length vs + 2 ≤ end → StayBelow ms vs end → AllStay ms vs
  stay_all end h below n v e = below n v (omega (arith, vertex_good vs n v e)) e

  pub gatherable : length ms ≡ length vs → AllStay ms vs → Gatherable ms vs
  gatherable l stay =
      record {
        numbered = l;
        below = λ n v e m. ((stay n v e m).0.0, (stay n v e m).1.0);
        whole = λ n v e m. ((stay n v e m).0.1, (stay n v e m).1.1);
      }

  pub all_stay : Gatherable ms vs → AllStay ms vs
  all_stay g n v e m = (((g.below n v e m).0, (g.whole n v e m).0), ((g.below n v e m).1, (g.whole n v e m).1))

-- what is done to the marked ones, said of each
map_marked : {A B : Type 0} (f g : A → B) (ms : List Bool) (xs : List A) → ((k : ℕ) (x : A) → slice_get xs k ≡ Some x → get_or ms k false ≡ true → f x ≡ g x) →
    map f (keep ms xs) ≡ map g (keep ms xs)
map_marked f g [] xs h = refl
map_marked f g (m ∷ ms) [] h = refl
map_marked f g (true ∷ ms) (x ∷ xs) h = ap₂ (λ y ys. y ∷ ys) (h 0 x refl refl) (map_marked f g ms xs (λ k y e m. h (suc k) y e m))
map_marked f g (false ∷ ms) (x ∷ xs) h = map_marked f g ms xs (λ k y e m. h (suc k) y e m)

pub noted_gather : {S : Type 0} (ps : List Place) (vs : List (Vertex S)) → Renumbered ps ps → Gatherable (marks_in ps) vs →
    map (noted_vertex ps) (keep (marks_in ps) vs) ≡ gather (marks_in ps) vs
noted_gather {S} ps vs r g = map_marked (noted_vertex ps) (renumbered (marks_in ps)) (marks_in ps) vs each
  where
    each : (k : ℕ) (v : Vertex S) → slice_get vs k ≡ Some v → get_or (marks_in ps) k false ≡ true → noted_vertex ps v ≡ renumbered (marks_in ps) v
    each k v e m =
        let low = g.below (suc (suc k)) v e m in
        let here = vertex_good vs (suc (suc k)) v e in
        let zero_in : v.zero ≤ length ps + 1 = omega (arith, low.0, g.numbered, length-map ps is_mark) in
        let one_in : v.one ≤ length ps + 1 = omega (arith, low.1, g.numbered, length-map ps is_mark) in
        let z = noted_new ps v.zero r zero_in in
        let o = noted_new ps v.one r one_in in
        λ i. record { label = v.label; zero = z i; one = o i }
