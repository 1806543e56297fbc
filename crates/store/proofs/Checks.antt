-- Checks that pass, and the refusal of one that fails.
use Rattle.std.specs.Prelude.{IfSome}
use Rattle.std.specs.Option.{ok_or}
use Rattle.std.proofs.Common.{◌≡◌, ℕ, ◌+◌, ◌^◌, ◌<◌, ◌≤◌, Bool, true, false, ltb, leb, List, length, Some, None, Ok, Err, Option, Result, sym, refl, ap, ◌∙◌, arith}
use Rattle.std.proofs.lemmas.Bool.{ltb-false, le-ltb, lt-leb, le-leb}
use Rattle.ledger.specs.declared.Vertex.{Vertex}
use Rattle.ledger.specs.Diagrams.{Good}
use Rattle.counting.specs.Tallies.{Counted}
use Rattle.store.specs.declared.fault.Fault.{Fault}
use Rattle.store.specs.State.{check, answered, Checked}

-- a check has passed
abbrev pub Passed : Option Fault → Type 0
Passed faults = ◌≡◌ {A = Result (Unit {0}) Fault} (Ok tt) (answered faults tt)

-- what a check that was passed says: it did not fail, and those behind it answer
pub passed : (fails : Bool) (fault : Fault) → ◌≡◌ {A = Result (Unit {0}) Fault} (Ok tt) (answered (check fails fault None) tt) →
    (fails ≡ false) × ((behind : Option Fault) → check fails fault behind ≡ behind)
passed true fault e = let z : ◌≡◌ {A = ℕ} 0 1 = cc in absurd (omega arith)
passed false fault e = (refl, λ behind. refl)

-- a check that refuses answers, whatever stands behind it
pub refused : (fails : Bool) (fault e : Fault) → ◌≡◌ {A = Result (Unit {0}) Fault} (Err e) (answered (check fails fault None) tt) →
    (behind : Option Fault) → check fails fault behind ≡ Some e
refused true fault e p behind = cc
refused false fault e p behind = let z : ◌≡◌ {A = ℕ} 0 1 = cc in absurd (omega arith)

pub answered_is : {A : Type 0} (faults : Option Fault) → faults ≡ None → (x y : A) → x ≡ y → Ok x ≡ answered faults y
answered_is None e x y p = ap Ok p
answered_is (Some f) e x y p = let z : ◌≡◌ {A = ℕ} 0 1 = cc in absurd (omega arith)

pub good_list : {S : Type 0} (vs : List (Vertex S)) (n : ℕ) → ltb (length vs + 1) n ≡ false → Good vs n
good_list vs n e = ltb-false (length vs + 1) n e

pub few_codes : (n : ℕ) (fault : Fault) → n < 2 ^ 64 → check (leb (2 ^ 64) n) fault None ≡ None
few_codes n fault h = ap (λ b. check b fault None) (lt-leb (2 ^ 64) n h)

pub many_codes : (n : ℕ) (fault : Fault) → 2 ^ 64 ≤ n → check (leb (2 ^ 64) n) fault None ≡ Some fault
many_codes n fault h = ap (λ b. check b fault None) (le-leb (2 ^ 64) n h)

-- a count below 2^64, and one from there on
pub counted_few : (faults : Option Fault → Option Fault) (n c : ℕ) (fault : Fault) → ((behind : Option Fault) → faults behind ≡ behind) → c ≡ n → c < 2 ^ 64 →
    Ok c ≡ answered (faults (check (leb (2 ^ 64) n) fault None)) n
counted_few faults n c fault through e h =
    answered_is _ (through _ ∙ few_codes n fault (omega arith)) c n e

pub counted_many : (faults : Option Fault → Option Fault) (n : ℕ) (fault : Fault) → ((behind : Option Fault) → faults behind ≡ behind) → 2 ^ 64 ≤ n →
    ◌≡◌ {A = Result ℕ Fault} (Err fault) (answered (faults (check (leb (2 ^ 64) n) fault None)) n)
counted_many faults n fault through h =
    sym (ap (λ o. answered o n) (through _ ∙ many_codes n fault h))

-- no check refuses, so what comes then is what is to be shown
pub then_comes : {A : Type 0} (faults : Option Fault) (r : Result A Fault) (same then : Type 0) → faults ≡ None → then → Checked faults r same then
then_comes None r same then e t = t
then_comes (Some f) r same then e t = let z : ◌≡◌ {A = ℕ} 0 1 = cc in absurd (omega arith)

-- a check refuses, and nothing changes
pub refuses : (A : Type 0) (faults : Option Fault) (fault : Fault) (same then : Type 0) → faults ≡ Some fault → same → Checked {A = A} faults (Err fault) same then
refuses A None fault same then e t = let z : ◌≡◌ {A = ℕ} 0 1 = cc in absurd (omega arith)
refuses A (Some f) fault same then e t = (let p : f ≡ fault = cc in ap Err (sym p), t)

-- a rule from 0 to 7
pub rule_passes : (rule : ℕ) (fault : Fault) (behind : Option Fault) → rule ≤ 7 → check (ltb 7 rule) fault behind ≡ behind
rule_passes rule fault behind h = ap (λ b. check b fault behind) (le-ltb 7 rule h)

-- how many codes there are, or that they are too many
pub counted : (faults : Option Fault → Option Fault) (n : ℕ) (o : Option ℕ) (fault : Fault) → ((behind : Option Fault) → faults behind ≡ behind) → IfSome o (λ c. c < 2 ^ 64) → Counted n o →
    ok_or o fault ≡ answered (faults (check (leb (2 ^ 64) n) fault None)) n
counted faults n (Some c) fault through small e = counted_few faults n c fault through e small
counted faults n None fault through small e = counted_many faults n fault through e
