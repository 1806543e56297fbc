-- Every row computes; clearing out follows the two links of list 4.
use Rattle.std.proofs.Common.{◌≡◌, ℕ, zero, suc, [], ◌∷◌, Some, None, sym, refl, ap, ◌∙◌, subst, arith}
use mathlib.Core.List.{Memᴰ}
use Rattle.ledger.specs.declared.Vertex.{Vertex}
use Rattle.ledger.specs.Diagrams.{look, Reached, itself, over_zero, over_one}
use Rattle.ledger.specs.Gather.{Marked}
use Rattle.ledger.specs.Examples.{third, marks, vertex}
use Rattle.ledger.proofs.Reading.{none_some, some_same, true_false}
use Rattle.ledger.proofs.examples.rows.Goals as goal

-- nothing is reached from a terminal
from_terminal : {k n : ℕ} → look third k ≡ None → Reached third k n → ⊥
from_terminal e (itself v p q) = none_some e p
from_terminal e (over_zero v p r) = none_some e p
from_terminal e (over_one v p r) = none_some e p

from_2 : {k n : ℕ} → k ≡ 2 → Reached third k n → Marked marks n
from_2 e (itself v p q) = subst (Marked marks) (sym e ∙ q) refl
from_2 {k} e (over_zero v p r) = let is : vertex 66 0 1 ≡ v = some_same refl (ap (look third) (sym e) ∙ p) in absurd (from_terminal (ap (λ (x : Vertex ℕ). look third x.zero) (sym is)) r)
from_2 {k} e (over_one v p r) = let is : vertex 66 0 1 ≡ v = some_same refl (ap (look third) (sym e) ∙ p) in absurd (from_terminal (ap (λ (x : Vertex ℕ). look third x.one) (sym is)) r)

from_4 : {k n : ℕ} → k ≡ 4 → Reached third k n → Marked marks n
from_4 e (itself v p q) = subst (Marked marks) (sym e ∙ q) refl
from_4 {k} e (over_zero v p r) = let is : vertex 65 2 2 ≡ v = some_same refl (ap (look third) (sym e) ∙ p) in from_2 (ap (λ (x : Vertex ℕ). x.zero) (sym is)) r
from_4 {k} e (over_one v p r) = let is : vertex 65 2 2 ≡ v = some_same refl (ap (look third) (sym e) ∙ p) in from_2 (ap (λ (x : Vertex ℕ). x.one) (sym is)) r

back : {k n : ℕ} → Memᴰ k (4 ∷ []) → Reached third k n → Marked marks n
back (Memᴰ.head e) r = from_4 e r
back (Memᴰ.tail m) r = elim m [ ]

there : (n : ℕ) (v : Vertex ℕ) → look third n ≡ Some v → Marked marks n → (k : ℕ) × Memᴰ k (4 ∷ []) × Reached third k n
there zero v p m = absurd (none_some refl p)
there (suc zero) v p m = absurd (none_some refl p)
there (suc (suc zero)) v p m = (4, Memᴰ.head refl, over_zero (vertex 65 2 2) refl (itself (vertex 66 0 1) refl refl))
there (suc (suc (suc zero))) v p m = absurd (true_false m refl)
there (suc (suc (suc (suc zero)))) v p m = (4, Memᴰ.head refl, itself (vertex 65 2 2) refl refl)
there (suc (suc (suc (suc (suc zero))))) v p m = absurd (true_false m refl)
there (suc (suc (suc (suc (suc (suc zero)))))) v p m = absurd (true_false m refl)
there (suc (suc (suc (suc (suc (suc (suc n))))))) v p m = absurd (none_some refl p)

pub returns : goal.returns
returns c =
    record {
      add_ab = (omega arith, refl, refl);
      two_is_b = refl;
      add_b = (omega arith, refl, refl);
      links_of_4 = refl;
      remove_ab = (omega arith, refl, refl);
      add_empty = (omega arith, refl, refl);
      five_is = refl;
      join_3 = (omega arith, refl, refl);
      join_7 = (omega arith, refl, refl);
      pick_0 = refl;
      pick_1 = refl;
      pick_2 = refl;
      under_a = refl;
      under_ab = refl;
      under_c = refl;
      keep_4 = (refl, λ n v p. (there n v p, λ h. back h.1 h.2));
      four_becomes = refl;
      used_then = refl;
      stay = refl;
      narrow_add_ab = (omega arith, refl, refl);
      narrow_add_b = (omega arith, refl);
      narrow_again = (omega arith, refl, refl);
    }
