-- The checks of a keep-list, number by number, and the step of a clear-out.
use Rattle.std.proofs.Common.{◌≡◌, ℕ, suc, ◌+◌, ◌<◌, ◌≤◌, Bool, true, false, ltb, List, [], ◌∷◌, length, get_or, drop, Some, None, Ok, Err, Option, Result, sym, refl, ap, ◌∙◌, add-one, arith}
use mathlib.Core.List.{Memᴰ}
use Rattle.std.proofs.lemmas.List.{drop_more, drop_all}
use Rattle.symbols.specs.Wire.{Travel}
use Rattle.ledger.specs.declared.Vertex.{Vertex}
use Rattle.ledger.specs.Diagrams.{Good}
use Rattle.ledger.proofs.Reading.{none_some}
use Rattle.clearing.specs.Cleared.{AllGood, Clears}
use Rattle.memory.specs.declared.work.Place.{Place}
use Rattle.store.specs.declared.fault.Fault.{Fault}
use Rattle.store.specs.declared.fault.Fault.TheVariants.{NoSuchList}
use Rattle.store.specs.State.{State, Forgotten, check, check_lists, check_work, answered}
use Rattle.store.specs.Calls.{ClearsOut, ClearedOut}
use Rattle.store.specs.Run.{Stands, clears_out}
use Rattle.store.proofs.Checks.{Passed, passed, refused, good_list, then_comes, refuses}
use Rattle.store.proofs.Standing.{passes}

module _ {S : Type 0} (vs : List (Vertex S)) where
  -- the next number of a keep-list
  next : (ks : List ℕ) (i : ℕ) → i < length ks →
      check_lists vs i (drop i ks) None ≡ check (ltb (length vs + 1) (get_or ks i 0)) (NoSuchList i) (check_lists vs (i + 1) (drop (i + 1) ks) None)
  next ks i h =
      let e : suc i ≡ i + 1 = sym (add-one i) in
      ap (λ (l : List ℕ). check_lists vs i l None) (drop_more ks i 0 h) ∙ ap (λ (j : ℕ). check (ltb (length vs + 1) (get_or ks i 0)) (NoSuchList i) (check_lists vs j (drop (i + 1) ks) None)) e

  -- it passes its check, or is refused by it
  pub next_passes : (ks : List ℕ) (i : ℕ) → i < length ks → Passed (check_lists vs i (get_or ks i 0 ∷ []) None) →
      check_lists vs i (drop i ks) None ≡ check_lists vs (i + 1) (drop (i + 1) ks) None
  next_passes ks i h p = next ks i h ∙ (passed _ _ p).1 _

  pub next_refused : (ks : List ℕ) (i : ℕ) (e : Fault) → i < length ks → ◌≡◌ {A = Result (Unit {0}) Fault} (Err e) (answered (check_lists vs i (get_or ks i 0 ∷ []) None) tt) →
      check_lists vs i (drop i ks) None ≡ Some e
  next_refused ks i e h p = next ks i h ∙ refused _ _ e p _

  pub no_next : (ks : List ℕ) (i : ℕ) → length ks ≤ i → check_lists vs i (drop i ks) None ≡ None
  no_next ks i h = ap (λ (l : List ℕ). check_lists vs i l None) (drop_all i ks h)

  -- a keep-list that passes: what stands behind it answers, and all its numbers are good
  pub all_pass : (place : ℕ) (ks : List ℕ) → check_lists vs place ks None ≡ None → ((behind : Option Fault) → check_lists vs place ks behind ≡ behind) × AllGood vs ks
  all_pass place [] e = (λ behind. refl, λ k m. elim m [ ])
  all_pass place (n ∷ ks) e =
      let here = passes (ltb (length vs + 1) n) (NoSuchList place) (check_lists vs (suc place) ks None) e in
      let rest = all_pass (suc place) ks here.1 in
      (λ behind. ap (λ b. check b (NoSuchList place) (check_lists vs (suc place) ks behind)) here.0 ∙ rest.0 behind, good here.0 rest.1)
    where
      good : ltb (length vs + 1) n ≡ false → AllGood vs ks → (k : ℕ) → Memᴰ k (n ∷ ks) → Good vs k
      good h rest k (Memᴰ.head p) = rw p (good_list vs n h)
      good h rest k (Memᴰ.tail m) = rest k m

  -- a keep-list that does not pass refuses, whatever stands behind it
  pub one_refuses : (place : ℕ) (ks : List ℕ) (e : Fault) (behind : Option Fault) → check_lists vs place ks None ≡ Some e → check_lists vs place ks behind ≡ Some e
  one_refuses place [] e behind p = absurd (none_some refl p)
  one_refuses place (n ∷ ks) e behind p = by (ltb (length vs + 1) n) (one_refuses (suc place) ks e behind) p
    where
      by : (b : Bool) → (check_lists vs (suc place) ks None ≡ Some e → check_lists vs (suc place) ks behind ≡ Some e) → check b (NoSuchList place) (check_lists vs (suc place) ks None) ≡ Some e → check b (NoSuchList place) (check_lists vs (suc place) ks behind) ≡ Some e
      by true rest q = q
      by false rest q = rest q

pub refused_by : (faults : Option Fault) (e : Fault) → ◌≡◌ {A = Result (Unit {0}) Fault} (Err e) (answered faults tt) → faults ≡ Some e
refused_by None e p = let z : ◌≡◌ {A = ℕ} 0 1 = cc in absurd (omega arith)
refused_by (Some f) e p = cc

pub passed_by : (faults : Option Fault) → ◌≡◌ {A = Result (Unit {0}) Fault} (Ok tt) (answered faults tt) → faults ≡ None
passed_by None p = refl
passed_by (Some f) p = let z : ◌≡◌ {A = ℕ} 0 1 = cc in absurd (omega arith)

module _ {S : Type 0} (before : S → S → Bool) (capacity : ℕ) (s s' : State S) (keep keep' : List ℕ) (work : List Place) (n : ℕ)
    (passed : check_lists s.vertices 0 keep (check_work capacity work None) ≡ None) (travel : Option (Travel S)) (Ready Ready' : Type 0) (st : Stands before travel capacity Ready s) (ready : Ready → Ready') where
  pub clearing : Clears s.vertices keep s'.vertices keep' → n ≡ length s'.vertices → Forgotten s'.table →
      ClearsOut before capacity s keep work (Ok n) s' keep' × Stands before travel capacity Ready' s'
  clearing c e f =
      let step : ClearsOut before capacity s keep work (Ok n) s' keep' =
      then_comes (check_lists s.vertices 0 keep (check_work capacity work None)) (Ok n) ((s' ≡ s) × (keep' ≡ keep)) (ClearedOut before capacity s keep (Ok n) s' keep') passed
      (c.0, c.1, c.2, c.3, ap Ok e, f) in
      (step, record { ready = ready st.ready; run = clears_out s keep work (Ok n) keep' st.run step })

module _ {S : Type 0} (before : S → S → Bool) (capacity : ℕ) (s : State S) (keep : List ℕ) (work : List Place) (e : Fault) where
  -- a check refuses, and nothing changes
  pub clear_refused : check_lists s.vertices 0 keep (check_work capacity work None) ≡ Some e → ClearsOut before capacity s keep work (Err e) s keep
  clear_refused p =
      refuses ℕ (check_lists s.vertices 0 keep (check_work capacity work None)) e ((s ≡ s) × (keep ≡ keep)) (ClearedOut before capacity s keep (Err e) s keep) p (refl, refl)
