-- What a pick answers, once its checks have passed.
use Rattle.std.proofs.Common.{◌≡◌, ℕ, Bool, List, None, Ok, Err, Option, refl, ◌∙◌}
use Rattle.ledger.specs.Ledger.{codes}
use Rattle.ledger.specs.Ordered.{ordered}
use Rattle.memory.specs.declared.work.Place.{Place}
use Rattle.counting.specs.Picks as counting
use Rattle.counting.specs.declared.picking.PickFault.{PickFault}
use Rattle.counting.specs.declared.picking.PickFault.TheVariants as pick
use Rattle.store.specs.State.{State}
use Rattle.store.specs.Refusals.{from_pick}
use Rattle.store.specs.Calls.{Picked, Picks, pick_checks, check_many}
use Rattle.store.proofs.Checks.{then_comes, refuses, few_codes, many_codes}

module _ {S : Type 0} (before : S → S → Bool) (capacity : ℕ) (s : State S) (list k : ℕ) (out out' : List S) (work : List Place)
    (passed : (behind : Option _) → pick_checks before capacity s list out work behind ≡ behind) where
  pub picks_ok : (n : ℕ) → counting.Short (codes s.vertices list) → counting.Picked (codes s.vertices list) k out (Ok n) out' →
      Picks before capacity s list k out work (Ok n) out'
  picks_ok n short p =
      let w = p.2 short in
      then_comes (pick_checks before capacity s list out work (check_many before capacity (ordered (codes s.vertices list)) None)) (Ok n) (out' ≡ out) (Picked before capacity s list k out (Ok n) out')
      (passed _ ∙ few_codes _ _ p.1) (w.code, w.at_k, w.long, w.written)

  pub picks_not : (e : PickFault) → out' ≡ out → counting.Picked (codes s.vertices list) k out (Err e) out' →
      Picks before capacity s list k out work (Err (from_pick e)) out'
  picks_not pick.TooMany same p =
      refuses ℕ (pick_checks before capacity s list out work (check_many before capacity (ordered (codes s.vertices list)) None)) (from_pick pick.TooMany) (out' ≡ out)
      (Picked before capacity s list k out (Err (from_pick pick.TooMany)) out') (passed _ ∙ many_codes _ _ p) same
  picks_not pick.NoSuchCode same p =
      then_comes (pick_checks before capacity s list out work (check_many before capacity (ordered (codes s.vertices list)) None)) (Err (from_pick pick.NoSuchCode)) (out' ≡ out)
      (Picked before capacity s list k out (Err (from_pick pick.NoSuchCode)) out') (passed _ ∙ few_codes _ _ p.0) (refl, p.1, same)
