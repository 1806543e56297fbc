-- More vertices: what stood before keeps its number, its vertex and its list, and a right recall table stays right.
use Rattle.std.proofs.Common.{◌≡◌, ℕ, Bool, List, ◌++◌, Option, sym, refl, ◌∙◌, ap₂, arith, length-append}
use Rattle.std.specs.Option.{option_map}
use Rattle.symbols.specs.Order.{Order}
use Rattle.ledger.specs.declared.Vertex.{Vertex}
use Rattle.ledger.specs.Lists.{Proper, Member}
use Rattle.ledger.specs.Diagrams.{look, parts, Good, Sound}
use Rattle.ledger.specs.Ledger.{codes}
use Rattle.ledger.specs.Operations.{has, takes, join}
use Rattle.ledger.proofs.Canon.{Kind, is_0, is_1, is_vertex, kind}
use Rattle.ledger.proofs.Drawn.{look_front, codes_proper}
use Rattle.ledger.proofs.Draws.{codes_front}
use Rattle.ledger.proofs.Joins.{join_right}
use Rattle.ledger.proofs.Orders.{has_in, in_has}
use Rattle.ledger.proofs.Sets.{proper_same}
use Rattle.memory.specs.declared.recall.Question.{Question}
use Rattle.joining.specs.Recalled.{Right, RightEntry}
use Rattle.joining.specs.Pairs.{joint, Settled, parted, apart}
use Rattle.joining.specs.declared.pairs.Pair.{Pair}

module _ {S : Type 0} (before : S → S → Bool) (order : Order before) where
  module _ (vs more : List (Vertex S)) where
    look_good : (n : ℕ) → Good vs n → look (vs ++ more) n ≡ look vs n
    look_good n good = by (kind vs n good)
      where
        by : Kind vs n → look (vs ++ more) n ≡ look vs n
        by (is_0 e) = rw e
        by (is_1 e) = rw e
        by (is_vertex v p) = look_front before order vs more n v p ∙ sym p

    pub good_front : (n : ℕ) → Good vs n → Good (vs ++ more) n
    good_front n good = let l = length-append vs more in omega arith

    pub apart_front : (pair : Pair) → Good vs pair.first → Good vs pair.second → apart before (vs ++ more) pair ≡ apart before vs pair
    apart_front pair first second =
        ap₂ (λ (a b : Option (Vertex S)). parted before pair (option_map parts a) (option_map parts b)) (look_good pair.first first) (look_good pair.second second)

    pub joint_front : (rule : ℕ) (pair : Pair) → Good vs pair.first → Good vs pair.second → joint before (vs ++ more) rule pair ≡ joint before vs rule pair
    joint_front rule pair first second = ap₂ (join before (takes rule)) (codes_front before order vs more pair.first first) (codes_front before order vs more pair.second second)

    entry_front : (q : Question) (n : ℕ) → RightEntry before vs q n → RightEntry before (vs ++ more) q n
    entry_front q n e =
        record {
          first = good_front q.first e.first;
          second = good_front q.second e.second;
          answer = good_front n e.answer;
          is = codes_front before order vs more n e.answer ∙ e.is ∙ ap₂ (join before (takes q.rule)) (sym (codes_front before order vs more q.first e.first)) (sym (codes_front before order vs more q.second e.second));
        }

    pub right_front : (table : Question → Option ℕ) → Right before vs table → Right before (vs ++ more) table
    right_front table right q n e = entry_front q n (right q n e)

  module _ (vs : List (Vertex S)) (sound : Sound before vs) (rule : ℕ) (pair : Pair) (first : Good vs pair.first) (second : Good vs pair.second) where
    pub joint_proper : Proper before (joint before vs rule pair)
    joint_proper = (join_right before order (takes rule) refl _ _ (codes_proper before order vs sound pair.first first) (codes_proper before order vs sound pair.second second)).proper

    -- what is settled is the pair's list
    pub settled_good : (n : ℕ) → Settled rule pair n → Good vs n
    settled_good n s = let m = s.0 in omega arith

    pub settled_is : (n : ℕ) → Settled rule pair n → codes vs n ≡ joint before vs rule pair
    settled_is n s = proper_same before order (codes vs n) (joint before vs rule pair) proper joint_proper alike
      where
        proper : Proper before (codes vs n)
        proper = codes_proper before order vs sound n (settled_good n s)

        same_has : (c : List S) → has before (codes vs n) c ≡ has before (joint before vs rule pair) c
        same_has c =
            s.1 (λ (m : ℕ). has before (codes vs m) c) refl ∙
            sym ((join_right before order (takes rule) refl _ _ (codes_proper before order vs sound pair.first first) (codes_proper before order vs sound pair.second second)).right c)

        alike : (c : List S) → (Member (codes vs n) c → Member (joint before vs rule pair) c) × (Member (joint before vs rule pair) c → Member (codes vs n) c)
        alike c = (
          λ m. has_in before order (joint before vs rule pair) c (sym (same_has c) ∙ in_has before order (codes vs n) proper c m),
          λ m. has_in before order (codes vs n) c (same_has c ∙ in_has before order (joint before vs rule pair) joint_proper c m),
        )
