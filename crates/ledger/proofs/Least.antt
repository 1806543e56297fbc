-- A diagram of a good number's codes has a vertex of its own for each vertex reached from that number.
use Rattle.std.proofs.Common.{◌≡◌, ℕ, zero, suc, ◌+◌, ◌≤◌, Bool, true, List, ◌∷◌, length, Some, sym, refl, subst, arith}
use mathlib.Core.Logic.Iff
use Rattle.symbols.specs.Order.{Order}
use Rattle.ledger.specs.declared.Vertex.{Vertex}
use Rattle.ledger.specs.Diagrams.{look, Has, ends, passes, takes, SameCodes, Later, Good, Sound, Reached, itself, over_zero, over_one, Counts}
use Rattle.ledger.proofs.Reading.{some_same, none_some, nil_cons, head_same, first, upto_after, upto_not, outer_back, inners_agree, outers_agree}
use Rattle.ledger.proofs.Canon.{vertex_good, inner_code, same_number}
use Rattle.ledger.proofs.Pigeons.{pigeons, upwards, length_upwards, in_upwards}

-- vertices of a diagram are numbered from 2
pub vertex_from_2 : {S : Type 0} (ds : List (Vertex S)) (n : ℕ) (v : Vertex S) → look ds n ≡ Some v → 2 ≤ n
vertex_from_2 ds zero v e = absurd (none_some refl e)
vertex_from_2 ds (suc zero) v e = absurd (none_some refl e)
vertex_from_2 ds (suc (suc n)) v e = omega arith

module _ {S : Type 0} (before : S → S → Bool) (order : Order before) (vs ds : List (Vertex S)) (sound : Sound before vs) (later : Later before ds) where
  -- a vertex of the diagram with the codes of n, and with a code under its one link
  record Stands (n : ℕ) (a : S) : Type 0 where
    number : ℕ
    vertex : Vertex S
    at : look ds number ≡ Some vertex
    labelled : vertex.label ≡ a
    rest : List S
    inner : Has ds vertex.one rest
    same : SameCodes vs n ds number

  module _ (n : ℕ) (v : Vertex S) (at_n : look vs n ≡ Some v) where
    -- Going down zero links from d, as a code that begins with v's label does: what is left behind is empty under its one link.
    stand_from : {d : ℕ} {c : List S} (rest : List S) → Has ds d c → c ≡ v.label ∷ rest → SameCodes vs n ds d → Stands n v.label
    stand_from rest (ends f g) e same = absurd (nil_cons g e)
    stand_from {d} rest (takes w rest' p f h) e same =
        record { number = d; vertex = w; at = p; labelled = head_same f e; rest = rest'; inner = h; same = same }
    stand_from {d} rest (passes w p h) e same = stand_from rest h e down
      where
        earlier : before w.label v.label ≡ true
        earlier =
            let r = first before order ds later v.label rest h e in
            upto_after before order w.label r.0.label v.label (later d w r.0 p r.1) r.2

        other : (c : List S) → Has vs n c → (t : List S) → c ≡ w.label ∷ t → ⊥
        other c k t f =
            let r = first before order vs sound.formed.later w.label t k f in
            let r_v : r.0 ≡ v = some_same r.1 at_n in
            upto_not before order r.0.label w.label (rw r_v earlier) r.2

        down : SameCodes vs n ds w.zero
        down c = (
          λ k. outer_back before order ds later w p ((same c).0 k) (other c k),
          λ k. (same c).1 (passes w p k),
        )

    stand : (d : ℕ) → SameCodes vs n ds d → Stands n v.label
    stand d same =
        let r = inner_code before order vs sound n v at_n in
        stand_from r.0 ((same _).0 (takes v r.0 at_n refl r.1)) refl same

    stand_one : (s : Stands n v.label) → SameCodes vs v.one ds s.vertex.one
    stand_one s = inners_agree before order vs ds sound.formed.later later n s.number v s.vertex at_n s.at s.same (sym s.labelled)

    stand_zero : (s : Stands n v.label) → SameCodes vs v.zero ds s.vertex.zero
    stand_zero s = outers_agree before order vs ds sound.formed.later later n s.number v s.vertex at_n s.at s.same (sym s.labelled)

  -- each vertex reached has its place
  pub place : {n k : ℕ} (d : ℕ) → Reached vs n k → SameCodes vs n ds d → (e : ℕ) × (w : Vertex S) × (look ds e ≡ Some w) × SameCodes vs k ds e
  place {n} {k} d (itself v p e) same =
      let s = stand n v p d same in
      (s.number, s.vertex, s.at, subst (λ x. SameCodes vs x ds s.number) e s.same)
  place {n} {k} d (over_zero v p r) same =
      let s = stand n v p d same in
      place s.vertex.zero r (stand_zero n v p s)
  place {n} {k} d (over_one v p r) same =
      let s = stand n v p d same in
      place s.vertex.one r (stand_one n v p s)

  reached_good : {n k : ℕ} → Reached vs n k → Good vs k
  reached_good {n} {k} (itself v p e) = let h : Good vs n = vertex_good vs n v p in omega arith
  reached_good (over_zero v p r) = reached_good r
  reached_good (over_one v p r) = reached_good r

  pub at_least : (n r : ℕ) → Counts (Reached vs n) r → (d : ℕ) → SameCodes vs n ds d → r ≤ length ds
  at_least n r counts d same =
      let few : length counts.them ≤ length (upwards 2 (length ds)) =
      pigeons (λ k e. SameCodes vs k ds e) counts.them (upwards 2 (length ds)) counts.apart
      (λ k m.
      let to = place d (counts.sound k m) same in
      let low : 2 ≤ to.0 = vertex_from_2 ds to.0 to.1 to.2 in
      let high : to.0 ≤ length ds + 1 = vertex_good ds to.0 to.1 to.2 in
      (to.0, in_upwards 2 (length ds) to.0 low (omega arith), to.3))
      (λ k j e m n' one two.
      same_number before order vs sound k j (reached_good (counts.sound k m)) (reached_good (counts.sound j n'))
      (λ c. Iff.trans (one c) (Iff.symm (two c)))) in
      omega (arith, counts.many, length_upwards 2 (length ds))
