-- What is written of a list is a diagram of its codes, and no vertex of it is spare.
use Rattle.std.proofs.Common.{◌≡◌, ℕ, ◌<◌, Bool, List, [], length, sym, ap, ◌∙◌, subst, arith}
use Rattle.symbols.specs.Order.{Order}
use Rattle.ledger.specs.Lists.{Codes, Proper}
use Rattle.ledger.specs.declared.Vertex.{Vertex}
use Rattle.ledger.specs.Diagrams.{Good, Sound, IsDiagram, LeadsTo, zero_step, one_step, then, Reached, Counts}
use Rattle.ledger.specs.Ledger.{lay, codes, fresh}
use Rattle.ledger.specs.Laid.{Laid}
use Rattle.ledger.specs.Statements.{LeastDiagram}
use Rattle.ledger.proofs.Canon.{vertex_good}
use Rattle.ledger.proofs.Drawn.{codes_proper}
use Rattle.ledger.proofs.Parts.{reached_many}
use Rattle.ledger.proofs.Gathering.{sound_empty}
use Rattle.ledger.proofs.Downs.{is_laid}
use Rattle.ledger.proofs.Draws.{lists_long, same_lists}

module _ {S : Type 0} (before : S → S → Bool) (order : Order before) where
  leads_down : (vs : List (Vertex S)) → Sound before vs → {n k : ℕ} → LeadsTo vs n k → k < n
  leads_down vs s {n} {k} (zero_step v p e) = let h = s.formed.zero_below n v p in omega arith
  leads_down vs s {n} {k} (one_step v p e) = let h = s.formed.one_below n v p in omega arith
  leads_down vs s {n} {k} (then a b) = let h = leads_down vs s a in let l = leads_down vs s b in omega arith

  pub sound_diagram : (vs : List (Vertex S)) → Sound before vs → IsDiagram before vs
  sound_diagram vs s =
      record {
        zero_good = λ n v p. let h = s.formed.zero_below n v p in let g = vertex_good vs n v p in omega arith;
        one_good = λ n v p. let h = s.formed.one_below n v p in let g = vertex_good vs n v p in omega arith;
        no_cycle = λ n l. let h = leads_down vs s l in omega arith;
        later = s.formed.later;
      }

  -- what is written of a list is that list, laid down on nothing
  pub written : (t : Codes S) → Proper before t → Laid before [] t (fresh before t).drawn (fresh before t).root
  written t p = is_laid before order [] t (sound_empty before order) p

  pub written_long : (t : Codes S) → Proper before t → length (lay before [] t) ≡ length (fresh before t).drawn
  written_long t p = ap length (sym (written t p).row) ∙ lists_long before order (fresh before t).drawn

  pub attained : (vs : List (Vertex S)) → Sound before vs → (n : ℕ) → Good vs n →
      LeastDiagram before vs n (fresh before (codes vs n)).drawn (fresh before (codes vs n)).root
  attained vs s n g =
      let l = written (codes vs n) (codes_proper before order vs s n g) in
      record {
        diagram = sound_diagram (fresh before (codes vs n)).drawn l.sound;
        good = l.good;
        same = same_lists before order vs (fresh before (codes vs n)).drawn s.formed l.sound.formed n (fresh before (codes vs n)).root g l.good (sym l.is);
        reached = subst (Counts (Reached vs n)) (written_long (codes vs n) (codes_proper before order vs s n g)) (reached_many before order vs s n g);
      }
