-- The turns of a reading: the steps so far, and those that what remains of the text gives.
use Rattle.std.proofs.Common.{◌≡◌, ℕ, ◌+◌, ◌<◌, ◌≤◌, Bool, true, false, cond, eqb, List, [], ◌∷◌, ◌++◌, length, get_or, drop, set, Some, None, Option, ◌==◌, sym, refl, ap, ◌∙◌, subst, append_assoc, arith}
use Rattle.std.proofs.lemmas.List.{append-nil, drop_more, drop_all, length_push}
use Rattle.std.specs.Option.{option_map, ok_or}
use Rattle.texts.proofs.Filling.{filled_more}
use Rattle.texts.specs.Texts.{filled}
use Rattle.texts.specs.declared.TextFault.TheVariants.{Unreadable}
use Rattle.steps.specs.Units.{unit_of_letter}
use Rattle.texts.specs.Decimals.{digit_of}
use Rattle.steps.specs.Stages.{grown, within, numbered, turned, with_done, ended, gone_on, Kept, steps_from, spelled}
use Rattle.steps.specs.declared.Step.{Step}
use Rattle.steps.specs.declared.reading.Stage.{Stage}
use Rattle.steps.specs.declared.reading.Stage.TheVariants.{Start, Lettered, Numbered}
use Rattle.steps.specs.declared.reading.Turn.{Turn}
use Rattle.steps.specs.Spelling.{mapped_own}

-- the step that has begun
abbrev pub pending : Stage → ℕ
pending Start = 0
pending (Lettered u) = 1
pending (Numbered s) = 1

abbrev pub onto : List Step → Option (List Step) → Option (List Step)
onto code o = option_map (λ rest. code ++ rest) o

onto_done : (code : List Step) (d : Option Step) (o : Option (List Step)) → onto code (option_map (with_done d) o) ≡ onto (code ++ with_done d []) o
onto_done code d None = refl
onto_done code None (Some rest) = ap (λ c. Some (c ++ rest)) (sym (append-nil code))
onto_done code (Some s) (Some rest) = ap (λ c. Some c) (sym (append_assoc code (s ∷ []) rest))

from_turn : (from : List ℕ) (stage : Stage) (i : ℕ) (o : Option Turn) → i < length from → o ≡ turned stage (get_or from i 0) → steps_from stage (drop i from) ≡ gone_on (λ next. steps_from next (drop (i + 1) from)) o
from_turn from stage i o l e = ap (steps_from stage) (drop_more from i 0 l) ∙ ap (gone_on (λ next. steps_from next (drop (i + 1) from))) (sym e)

-- one byte more
pub turn_more : (all : Option (List Step)) (from : List ℕ) (stage : Stage) (i : ℕ) (code : List Step) (t : Turn) → i < length from → all ≡ onto code (steps_from stage (drop i from)) → Some t ≡ turned stage (get_or from i 0) → all ≡ onto (code ++ with_done t.done []) (steps_from t.next (drop (i + 1) from))
turn_more all from stage i code t l h e = h ∙ ap (onto code) (from_turn from stage i (Some t) l e) ∙ onto_done code t.done (steps_from t.next (drop (i + 1) from))

-- the end of the text
pub turn_ends : (all : Option (List Step)) (from : List ℕ) (stage : Stage) (i : ℕ) (code : List Step) → length from ≤ i → all ≡ onto code (steps_from stage (drop i from)) → all ≡ onto code (ended stage)
turn_ends all from stage i code l h = h ∙ ap (λ bs. onto code (steps_from stage bs)) (drop_all i from l)

pub spelled_some : (from : List ℕ) (o : Option (List Step)) → (length from == 0) ≡ false → steps_from Start from ≡ o → spelled from ≡ ok_or o Unreadable
spelled_some [] o h e = absurd cc
spelled_some (b ∷ bs) o h e = ap (λ p. ok_or p Unreadable) e

-- a step that has ended is the next of the code
pub kept_long : (done : Option Step) (count r : ℕ) (out new code : List Step) → Kept done count out r new → length code ≡ count → length (code ++ with_done done []) ≡ r
kept_long None count r out new code k l = ap length (append-nil code) ∙ l ∙ sym k.0
kept_long (Some s) count r out new code k l = length_push code s ∙ ap (λ n. n + 1) l ∙ sym k.0

pub kept_filled : (done : Option Step) (count r : ℕ) (out new code old : List Step) → Kept done count out r new → length code ≡ count → out ≡ filled code old → new ≡ filled (code ++ with_done done []) old
kept_filled None count r out new code old k l f = k.1 ∙ f ∙ ap (λ c. filled c old) (sym (append-nil code))
kept_filled (Some s) count r out new code old k l f = k.1 ∙ (λ i. set (f i) (sym l i) s) ∙ filled_more code s old

-- the steps that have ended and the one that has begun are no more than the bytes
pub kept_few : (stage : Stage) (b : ℕ) (t : Turn) (count r i : ℕ) (out new : List Step) → Some t ≡ turned stage b → Kept t.done count out r new → count + pending stage ≤ i → r + pending t.next ≤ i + 1
kept_few Start b t count r i out new e =
    let m = mapped_own (λ u. within (Lettered u)) (unit_of_letter b) t (sym e) in
    let P : Turn → Type 0 = λ v. Kept v.done count out r new → count + 0 ≤ i → r + pending v.next ≤ i + 1 in
    subst P m.2 (λ k h. omega arith)
kept_few (Lettered u) b t count r i out new e =
    let m = mapped_own (λ n. within (numbered u n)) (digit_of b) t (sym e) in
    let P : Turn → Type 0 = λ v. Kept v.done count out r new → count + 1 ≤ i → r + pending v.next ≤ i + 1 in
    subst P m.2 (λ k h. omega arith)
kept_few (Numbered s) b t count r i out new e = go (eqb b 47) (sym e)
  where
    P : Turn → Type 0
    P v = Kept v.done count out r new → count + 1 ≤ i → r + pending v.next ≤ i + 1

    go : (q : Bool) → ◌≡◌ {A = Option Turn} (cond q (Some (record { done = Some s; next = Start })) (option_map (λ n. within (numbered s.unit n)) (grown s.number b))) (Some t) → P t
    go true p =
        let same : ◌≡◌ {A = Turn} (record { done = Some s; next = Start }) t = cc in
        let at : P (record { done = Some s; next = Start }) = λ k h. omega arith in
        subst P same at
    go false p =
        let m = mapped_own (λ n. within (numbered s.unit n)) (grown s.number b) t p in
        let at : P (within (numbered s.unit m.0)) = λ k h. omega arith in
        subst P m.2 at

pub ended_none : (stage : Stage) → ((s : Step) → stage ≡ Numbered s → ⊥) → ended stage ≡ None
ended_none Start h = refl
ended_none (Lettered u) h = refl
ended_none (Numbered s) h = absurd (h s refl)
