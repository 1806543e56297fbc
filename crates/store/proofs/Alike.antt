-- What two stores write of two lists is equal exactly when the lists have the same codes.
use Rattle.std.proofs.Common.{◌≡◌, ℕ, ◌+◌, ◌≤◌, Bool, ltb, List, ◌++◌, length, take, drop, Some, None, Ok, Err, Option, sym, refl, ap, ◌∙◌, arith}
use Rattle.std.proofs.lemmas.List.{take_at, length-append}
use Rattle.std.proofs.lemmas.Bool.{le-ltb, lt-ltb}
use Rattle.symbols.specs.Order.{Order}
use Rattle.symbols.specs.Wire.{Travel, WireLaws}
use Rattle.ledger.specs.Diagrams.{Good}
use Rattle.ledger.specs.Ledger.{codes}
use Rattle.memory.specs.declared.work.Place.{Place}
use Rattle.ledger.proofs.Bytes.{dispatches_alike}
use Rattle.wire.specs.Written.{written}
use Rattle.store.specs.declared.fault.Fault.{Fault}
use Rattle.store.specs.declared.fault.Fault.TheVariants.{NoSuchList, ShortOutput}
use Rattle.store.specs.State.{State, Checked, check}
use Rattle.store.specs.Calls.{Writes, Written, count_checks}
use Rattle.store.specs.Run.{WrittenAlike}
use Rattle.writing.specs.Writes as writing
use Rattle.symbols.specs.declared.ShortOutput.{ShortOutput as ShortOut}
use Rattle.store.proofs.Checks.{good_list, then_comes, refuses}
use Rattle.store.proofs.Standing.{passes}
use Rattle.store.proofs.Runs.{run_stands}

-- an accepted call has passed its checks
pub accepted : {A : Type 0} (faults : Option Fault) (a : A) (same then : Type 0) → Checked faults (Ok a) same then → (faults ≡ None) × then
accepted None a same then c = (refl, c)
accepted (Some f) a same then c = let e = c.0 in let z : ◌≡◌ {A = ℕ} 0 1 = cc in absurd (omega arith)

-- what an accepted write shows: the list number is good, and the bytes are those of the list
wrote : {S : Type 0} (before : S → S → Bool) (capacity : ℕ) (travel : Travel S) (s : State S) (list : ℕ) (out : List ℕ) (work : List Place) (n : ℕ) (exit : List ℕ) →
    Writes before capacity travel s list out work (Ok n) exit → Good s.vertices list × (take n exit ≡ written before travel (codes s.vertices list))
wrote before capacity travel s list out work n exit w =
    let bytes = written before travel (codes s.vertices list) in
    let a = accepted (count_checks before capacity s list work (check (ltb (length out) (length bytes)) ShortOutput None)) n (exit ≡ out) (Written before capacity bytes out (Ok n) exit) w in
    let good = good_list s.vertices list (passes (ltb (length s.vertices + 1) list) (NoSuchList 0) _ a.0).0 in
    let long : length bytes ≡ n = let e = a.1.0 in cc in
    (good, ap (take n) a.1.1 ∙ take_at bytes (drop (length bytes) out) n long)

module _ {S : Type 0} (before : S → S → Bool) (order : Order before) (travel : Travel S) (laws : WireLaws travel) where
  pub written_alike : WrittenAlike before travel
  written_alike capacity capacity' s s' run run' m n out out' work work' l l' exit exit' w w' =
      let a = wrote before capacity travel s m out work l exit w in
      let b = wrote before capacity' travel s' n out' work' l' exit' w' in
      let st = run_stands before order capacity (Some travel) run in
      let st' = run_stands before order capacity' (Some travel) run' in
      let alike = dispatches_alike before order travel.kind travel.width travel.bytes travel.reads laws s.vertices s'.vertices st.sound st'.sound (omega (arith, st.few, st.small)) (omega (arith, st'.few, st'.small)) m n a.0 b.0 in
      (λ e. alike.0 (sym a.1 ∙ e ∙ b.1), λ same. a.1 ∙ alike.1 same ∙ sym b.1)

module _ {S : Type 0} (before : S → S → Bool) (capacity : ℕ) (travel : Travel S) (s : State S) (list : ℕ) (out out' : List ℕ) (work : List Place)
    (passed : (behind : Option Fault) → count_checks before capacity s list work behind ≡ behind) where
  -- the walk wrote, and what it wrote had room
  pub writes_ok : (n : ℕ) → writing.Writes {F = ShortOut} (written before travel (codes s.vertices list)) out (Ok n) out' → length out' ≡ length out →
      Writes before capacity travel s list out work (Ok n) out'
  writes_ok n w long =
      let bytes = written before travel (codes s.vertices list) in
      let e = w.0 in
      let room : length bytes ≤ length out = omega (arith, ap length w.1, length-append bytes (drop n out)) in
      then_comes (count_checks before capacity s list work (check (ltb (length out) (length bytes)) ShortOutput None)) (Ok n) (out' ≡ out) (Written before capacity bytes out (Ok n) out')
      (passed _ ∙ ap (λ b. check b ShortOutput None) (le-ltb (length out) (length bytes) room)) (ap Ok e, w.1 ∙ ap (λ (k : ℕ). bytes ++ drop k out) e)

  -- the output was too short, and nothing was written
  pub writes_not : (e : ShortOut) → writing.Writes (written before travel (codes s.vertices list)) out (Err e) out' → Writes before capacity travel s list out work (Err ShortOutput) out'
  writes_not e w =
      let bytes = written before travel (codes s.vertices list) in
      refuses ℕ (count_checks before capacity s list work (check (ltb (length out) (length bytes)) ShortOutput None)) ShortOutput (out' ≡ out) (Written before capacity bytes out (Err ShortOutput) out')
      (passed _ ∙ ap (λ b. check b ShortOutput None) (lt-ltb (length out) (length bytes) w.0)) w.1
