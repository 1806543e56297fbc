-- Calls whose checks have passed take their steps, and the run goes on.
use Rattle.std.proofs.Common.{◌≡◌, ℕ, ◌≤◌, Bool, List, [], ◌∷◌, None, Option, Result, ◌∙◌}
use Rattle.symbols.specs.Order.{Order}
use Rattle.symbols.specs.Wire.{Travel}
use Rattle.ledger.specs.Diagrams.{Good, Sound}
use Rattle.ledger.specs.Ledger.{codes}
use Rattle.ledger.specs.Operations.{takes, join}
use Rattle.memory.specs.declared.work.Place.{Place}
use Rattle.paths.specs.Changed.{changed}
use Rattle.paths.specs.declared.changing.Change.{Change}
use Rattle.paths.specs.declared.changing.Change.TheVariants.{Add, Remove}
use Rattle.joining.specs.Recalled.{Right}
use Rattle.store.specs.declared.fault.Fault.{Fault}
use Rattle.store.specs.State.{State, check_lists, check_code, check_work}
use Rattle.store.specs.Calls.{LaidDown, Changes, JoinedDown, Joins}
use Rattle.store.specs.Run.{Run, Stands, adds, removes, joins}
use Rattle.store.proofs.Checks.{Passed, passed, good_list, rule_passes, then_comes}
use Rattle.store.proofs.Runs.{run_stands}

module _ {S : Type 0} (before : S → S → Bool) (order : Order before) (capacity : ℕ) (s s' : State S) {Ready Ready' : Type 0}
    (stands : (travel : Option (Travel S)) → Stands before travel capacity Ready s) (ready : Ready → Ready') where
  -- a list is changed by a code
  pub changing : (change : Change) (list : ℕ) (code : List S) (work : List Place) (r : Result ℕ Fault) →
      Passed (check_lists s.vertices 0 (list ∷ []) None) → Passed (check_code code None) → Passed (check_work capacity work None) →
      (Ready → Sound before s.vertices → Good s.vertices list → LaidDown before capacity s (changed before change (codes s.vertices list) code) r s') →
      Changes before capacity change s list code work r s' × ((travel : Option (Travel S)) → Stands before travel capacity Ready' s')
  changing change list code work r list_passed code_passed work_passed laid =
      let one = passed _ _ list_passed in
      let two = passed _ _ code_passed in
      let three = passed _ _ work_passed in
      let st = stands None in
      let step : Changes before capacity change s list code work r s' =
      then_comes _ r (s' ≡ s) (LaidDown before capacity s (changed before change (codes s.vertices list) code) r s') (one.1 _ ∙ two.1 _ ∙ three.1 None)
      (laid st.ready (run_stands before order capacity None st.run).sound (good_list s.vertices list one.0)) in
      (step, λ travel. record { ready = ready (stands travel).ready; run = goes_on change travel step })
    where
      goes_on : (change : Change) (travel : Option (Travel S)) → Changes before capacity change s list code work r s' → Run before travel capacity s'
      goes_on Add travel step = adds s list code work r (stands travel).run step
      goes_on Remove travel step = removes s list code work r (stands travel).run step

  -- two lists are joined by a rule
  pub joined : (rule first second : ℕ) (work : List Place) (r : Result ℕ Fault) →
      Passed (check_lists s.vertices 0 (first ∷ []) None) → Passed (check_lists s.vertices 1 (second ∷ []) None) → rule ≤ 7 → Passed (check_work capacity work None) →
      (Ready → Sound before s.vertices → Good s.vertices first → Good s.vertices second → Right before s.vertices s.table →
      JoinedDown before capacity s (join before (takes rule) (codes s.vertices first) (codes s.vertices second)) r s') →
      Joins before capacity s rule first second work r s' × ((travel : Option (Travel S)) → Stands before travel capacity Ready' s')
  joined rule first second work r first_passed second_passed small work_passed laid =
      let one = passed _ _ first_passed in
      let two = passed _ _ second_passed in
      let three = passed _ _ work_passed in
      let st = stands None in
      let sure = run_stands before order capacity None st.run in
      let step : Joins before capacity s rule first second work r s' =
      then_comes _ r (s' ≡ s) (JoinedDown before capacity s (join before (takes rule) (codes s.vertices first) (codes s.vertices second)) r s')
      (one.1 _ ∙ two.1 _ ∙ rule_passes rule _ _ small ∙ three.1 None)
      (laid st.ready sure.sound (good_list s.vertices first one.0) (good_list s.vertices second two.0) sure.right) in
      (step, λ travel. record { ready = ready (stands travel).ready; run = joins s rule first second work r (stands travel).run step })
