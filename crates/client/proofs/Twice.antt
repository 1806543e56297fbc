-- A list that is laid down twice has one number, or is refused twice.
use Rattle.std.proofs.Common.{◌≡◌, ℕ, ◌+◌, ◌*◌, Bool, ltb, List, length, Some, None, Ok, Err, Option, Result, sym, refl, ap, ◌∙◌, subst, arith}
use Rattle.std.proofs.lemmas.Bool.{le-ltb}
use Rattle.symbols.specs.Order.{Order}
use Rattle.ledger.specs.Lists.{Codes, none, Proper}
use Rattle.ledger.specs.Diagrams.{Sound}
use Rattle.ledger.specs.Ledger.{number, lay, lists}
use Rattle.ledger.specs.Operations.{takes, single, added}
use Rattle.ledger.proofs.Rows.{lay_known, lay_knows}
use Rattle.ledger.proofs.Downs.{is_laid}
use Rattle.ledger.proofs.Finite.{single_proper}
use Rattle.memory.specs.declared.work.Place.{Place}
use Rattle.store.specs.declared.fault.Fault.{Fault}
use Rattle.store.specs.declared.fault.Fault.TheVariants.{NoSuchList, LittleWork}
use Rattle.store.specs.State.{State, Checked, check, check_code, check_work}
use Rattle.store.specs.Calls.{LaidDown, Adds, change_checks}
use Rattle.store.proofs.Standing.{join_proper}

module _ {S : Type 0} (before : S → S → Bool) (order : Order before) (capacity : ℕ) where
  module _ (s s' s'' : State S) (t : Codes S) (sound : Sound before s.vertices) (proper : Proper before t) where
    -- laying down once more brings no list
    once_more : lists s'.vertices ≡ lay before (lists s.vertices) t → lay before (lists s'.vertices) t ≡ lay before (lists s.vertices) t
    once_more rows =
        ap (λ (row : List (Codes S)). lay before row t) rows ∙
        lay_known before order (lay before (lists s.vertices) t) t (lay_knows before order (lists s.vertices) t)

    pub twice_laid : (r r' : Result ℕ Fault) → LaidDown before capacity s t r s' → LaidDown before capacity s' t r' s'' → r' ≡ r
    twice_laid (Ok n) (Ok m) a b =
        let rows : lists s'.vertices ≡ lay before (lists s.vertices) t = rw a.0.1 (is_laid before order s.vertices t sound proper).row in
        let e : m ≡ n = b.0.2 ∙ ap (λ (row : List (Codes S)). number before row t) (once_more rows) ∙ sym a.0.2 in
        ap Ok e
    twice_laid (Ok n) (Err fault) a b =
        let rows : lists s'.vertices ≡ lay before (lists s.vertices) t = rw a.0.1 (is_laid before order s.vertices t sound proper).row in
        absurd (omega (arith, ap length (once_more rows), a.0.0, b.1.0))
    twice_laid (Err fault) (Ok m) a b =
        let same = ap (λ vs. length (lay before (lists vs) t)) a.1.1 in
        absurd (omega (arith, same, a.1.0, b.0.0))
    twice_laid (Err fault) (Err again) a b = ap Err (b.0 ∙ sym a.0)

  module _ (s s' s'' : State S) (code : List S) (work work' : List Place) (sound : Sound before s.vertices) (alike : length work' ≡ length work) (r r' : Result ℕ Fault) where
    abbrev t : Codes S
    t = added before none code

    t_proper : Proper before t
    t_proper = join_proper before order capacity (takes 7) refl none (single code) tt (single_proper before code)

    -- list 0 is always there, so both are checked alike
    abbrev faults : Option Fault
    faults = check_code code (check_work capacity work None)

    by : (o : Option Fault) → Checked o r (s' ≡ s) (LaidDown before capacity s t r s') → Checked o r' (s'' ≡ s') (LaidDown before capacity s' t r' s'') → r' ≡ r
    by None a b = twice_laid s s' s'' t sound t_proper r r' a b
    by (Some fault) a b = b.0 ∙ sym a.0

    checked_alike : (v : State S) (w : List Place) → length w ≡ length work → change_checks before capacity v 0 code w ≡ faults
    checked_alike v w e =
        ap (λ (b : Bool). check b (NoSuchList 0) (check_code code (check_work capacity w None))) (le-ltb (length v.vertices + 1) 0 (omega arith)) ∙
        ap (λ (n : ℕ). check_code code (check (ltb n (2 * capacity + 256)) LittleWork None)) e

    pub twice : Adds before capacity s 0 code work r s' → Adds before capacity s' 0 code work' r' s'' → r' ≡ r
    twice a b =
        by faults
        (subst (λ (o : Option Fault). Checked o r (s' ≡ s) (LaidDown before capacity s t r s')) (checked_alike s work refl) a)
        (subst (λ (o : Option Fault). Checked o r' (s'' ≡ s') (LaidDown before capacity s' t r' s'')) (checked_alike s' work' alike) b)
