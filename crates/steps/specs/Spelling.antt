-- A text spells a code exactly if it is the code's text.
use Rattle.std.specs.Prelude.{◌≡◌, ℕ, ◌+◌, ◌-◌, ◌*◌, ◌/◌, ◌%◌, ◌<◌, ◌≤◌, Bool, true, false, cond, List, [], ◌∷◌, ◌++◌, length, Some, None, Ok, Err, decimal, Option, ◌==◌, nat_eq, refl}
use Rattle.std.proofs.Common.{ap, sym, subst, ◌∙◌, append_assoc, arith, eqb-true, ne_eqb}
use Rattle.std.proofs.lemmas.Fmt.{decimal_digit, decimal_by_steps}
use Rattle.std.proofs.lemmas.Bool.Decides.{nat_tests}
use Rattle.std.specs.Option.{option_map, ok_or}
use Rattle.std.specs.List.{flat_map, AllByRecursion}
use Rattle.texts.specs.Texts.{OwnText}
use Rattle.texts.specs.declared.TextFault.{TextFault}
use Rattle.texts.specs.declared.TextFault.TheVariants.{Unreadable}
use Rattle.steps.specs.Units.{unit_letter, unit_of_letter}
use Rattle.steps.specs.Paths.{step_text, slashed, text_of, Short, Exact}
use Rattle.texts.specs.Decimals.{digit_of}
use Rattle.steps.specs.Stages.{grown, within, numbered, turned, with_done, gone_on, steps_from, spelled}
use Rattle.steps.specs.declared.Step.{Step}
use Rattle.steps.specs.declared.Unit.{Unit as Kind}
use Rattle.steps.specs.declared.reading.Stage.{Stage}
use Rattle.steps.specs.declared.reading.Stage.TheVariants.{Start, Lettered, Numbered}
use Rattle.steps.specs.declared.reading.Turn.{Turn}
use Rattle.steps.specs.Decimals.{wide, decimal_more}
use Rattle.steps.specs.UnitsLemmas.{letter_back, letter_own}

digit_own : (b d : ℕ) → digit_of b ≡ Some d → (48 + d ≡ b) × (d < 10)
digit_own b d e = (grind (arith, nat_tests), grind (arith, nat_tests))

digit_back : (d : ℕ) → d < 10 → digit_of (48 + d) ≡ Some d
digit_back d h = grind (arith, nat_tests)

grown_own : (n b m : ℕ) → grown n b ≡ Some m → (1 ≤ n) × (48 ≤ b) × (b - 48 < 10) × (m ≡ n * 10 + (b - 48)) × (m < 65536)
grown_own n b m e = (grind (arith, nat_tests), grind (arith, nat_tests), grind (arith, nat_tests), grind (arith, nat_tests), grind (arith, nat_tests))

grown_back : (n d m : ℕ) → 1 ≤ n → d < 10 → m < 65536 → m ≡ n * 10 + d → grown n (48 + d) ≡ Some m
grown_back n d m l h s e = grind (arith, nat_tests)

pub mapped_own : {A B : Type 0} (f : A → B) (o : Option A) (t : B) → option_map f o ≡ Some t → (x : A) × (o ≡ Some x) × (f x ≡ t)
mapped_own f None t e = absurd cc
mapped_own f (Some x) t e = (x, refl, cc)

none_done : (o : Option (List Step)) → option_map (with_done None) o ≡ o
none_done None = refl
none_done (Some code) = refl

-- From a text to its code.

-- what is read of a step at a stage
abbrev begun : Stage → List ℕ
begun Start = []
begun (Lettered u) = unit_letter u ∷ []
begun (Numbered s) = step_text s

abbrev Fine : Stage → Type 0
Fine Start = Unit {0}
Fine (Lettered u) = Unit {0}
Fine (Numbered s) = Short s

-- a code whose text is what is read of a step and the bytes after that
abbrev Own : Stage → List ℕ → List Step → Type 0
Own stage bs code = (text_of code ≡ begun stage ++ bs) × AllByRecursion Short code × (1 ≤ length code)

slash : (code : List Step) → 1 ≤ length code → flat_map slashed code ≡ 47 ∷ text_of code
slash [] h = absurd (omega arith)
slash (s ∷ code) h = refl

turn_own : (stage : Stage) (b : ℕ) (t : Turn) → turned stage b ≡ Some t → Fine stage → (bs : List ℕ) (rest : List Step) → Own t.next bs rest → Own stage (b ∷ bs) (with_done t.done rest)
turn_own Start b t p fine bs rest =
    let m = mapped_own (λ u. within (Lettered u)) (unit_of_letter b) t p in
    let P : Turn → Type 0 = λ v. Own v.next bs rest → Own Start (b ∷ bs) (with_done v.done rest) in
    subst P m.2 (λ o. (o.0 ∙ ap (λ c. c ∷ bs) (letter_own b m.0 m.1), o.1, o.2))
turn_own (Lettered u) b t p fine bs rest =
    let m = mapped_own (λ n. within (numbered u n)) (digit_of b) t p in
    let d = digit_own b m.0 m.1 in
    let P : Turn → Type 0 = λ v. Own v.next bs rest → Own (Lettered u) (b ∷ bs) (with_done v.done rest) in
    subst P m.2 (λ o. (o.0 ∙ ap (λ ds. unit_letter u ∷ (ds ++ bs)) (decimal_digit m.0 d.1) ∙ ap (λ c. unit_letter u ∷ c ∷ bs) d.0, o.1, o.2))
turn_own (Numbered s) b t p fine bs rest = go (b == 47) refl p
  where
    P : Turn → Type 0
    P v = Own v.next bs rest → Own (Numbered s) (b ∷ bs) (with_done v.done rest)

    more : (m : ℕ) → grown s.number b ≡ Some m → P (within (numbered s.unit m))
    more m e o =
        let g = grown_own s.number b m e in
        let byte : 48 + (b - 48) ≡ b = omega arith in
        let digits : decimal m ≡ decimal s.number ++ b ∷ [] = ap decimal g.3 ∙ decimal_more s.number (b - 48) g.0 g.2 (omega arith) ∙ ap (λ c. decimal s.number ++ c ∷ []) byte in
        (o.0 ∙ ap (λ ds. unit_letter s.unit ∷ (ds ++ bs)) digits ∙ ap (λ ds. unit_letter s.unit ∷ ds) (append_assoc (decimal s.number) (b ∷ []) bs), o.1, o.2)

    go : (q : Bool) → (b == 47) ≡ q → ◌≡◌ {A = Option Turn} (cond q (Some (record { done = Some s; next = Start })) (option_map (λ n. within (numbered s.unit n)) (grown s.number b))) (Some t) → P t
    go true q e =
        let same : ◌≡◌ {A = Turn} (record { done = Some s; next = Start }) t = cc in
        let at : P (record { done = Some s; next = Start }) = λ o. (ap (λ r. step_text s ++ r) (slash rest o.2 ∙ (λ i. sym (eqb-true b 47 q) i ∷ o.0 i)), (fine, o.1), omega arith) in
        subst P same at
    go false q e = let m = mapped_own (λ n. within (numbered s.unit n)) (grown s.number b) t e in subst P m.2 (more m.0 m.1)

turn_fine : (stage : Stage) (b : ℕ) (t : Turn) → turned stage b ≡ Some t → Fine t.next
turn_fine Start b t p =
    let m = mapped_own (λ u. within (Lettered u)) (unit_of_letter b) t p in
    let P : Turn → Type 0 = λ v. Fine v.next in
    subst P m.2 tt
turn_fine (Lettered u) b t p =
    let m = mapped_own (λ n. within (numbered u n)) (digit_of b) t p in
    let d = digit_own b m.0 m.1 in
    let P : Turn → Type 0 = λ v. Fine v.next in
    subst P m.2 (omega arith)
turn_fine (Numbered s) b t p = go (b == 47) p
  where
    P : Turn → Type 0
    P v = Fine v.next

    go : (q : Bool) → ◌≡◌ {A = Option Turn} (cond q (Some (record { done = Some s; next = Start })) (option_map (λ n. within (numbered s.unit n)) (grown s.number b))) (Some t) → P t
    go true e = let same : ◌≡◌ {A = Turn} (record { done = Some s; next = Start }) t = cc in subst P same tt
    go false e = let m = mapped_own (λ n. within (numbered s.unit n)) (grown s.number b) t e in subst P m.2 (grown_own s.number b m.0 m.1).4

own_on : (bs : List ℕ) → ((stage : Stage) (code : List Step) → Fine stage → steps_from stage bs ≡ Some code → Own stage bs code) → (stage : Stage) (b : ℕ) (o : Option Turn) (code : List Step) → Fine stage → turned stage b ≡ o → gone_on (λ next. steps_from next bs) o ≡ Some code → Own stage (b ∷ bs) code
own_on bs on stage b None code fine p e = absurd cc
own_on bs on stage b (Some t) code fine p e =
    let m = mapped_own (with_done t.done) (steps_from t.next bs) code e in
    let rest = on t.next m.0 (turn_fine stage b t p) m.1 in
    subst (λ c. Own stage (b ∷ bs) c) m.2 (turn_own stage b t p fine bs m.0 rest)

steps_own : (bs : List ℕ) (stage : Stage) (code : List Step) → Fine stage → steps_from stage bs ≡ Some code → Own stage bs code
steps_own [] Start code fine e = absurd cc
steps_own [] (Lettered u) code fine e = absurd cc
steps_own [] (Numbered s) code fine e =
    let same : s ∷ [] ≡ code = cc in
    let one : Own (Numbered s) [] (s ∷ []) = (refl, (fine, tt), omega arith) in
    subst (λ c. Own (Numbered s) [] c) same one
steps_own (b ∷ bs) stage code fine e = own_on bs (steps_own bs) stage b (turned stage b) code fine refl e

pub ok_own : {A E : Type 0} (o : Option A) (e : E) (x : A) → ok_or o e ≡ Ok x → o ≡ Some x
ok_own None e x h = absurd cc
ok_own (Some y) e x h = cc

spelled_own : (t : List ℕ) (code : List Step) → spelled t ≡ Ok code → (text_of code ≡ t) × AllByRecursion Short code
spelled_own [] code e =
    let same : [] ≡ code = cc in
    let P : List Step → Type 0 = λ c. (text_of c ≡ []) × AllByRecursion Short c in
    subst P same (refl, tt)
spelled_own (b ∷ bs) code e = let o = steps_own (b ∷ bs) Start code tt (ok_own (steps_from Start (b ∷ bs)) Unreadable code e) in (o.0, o.1)

-- From a code to its text and back.

letter_read : (u : Kind) (bs : List ℕ) → steps_from Start (unit_letter u ∷ bs) ≡ steps_from (Lettered u) bs
letter_read u bs = ap (λ o. gone_on (λ next. steps_from next bs) (option_map (λ v. within (Lettered v)) o)) (letter_back u) ∙ none_done (steps_from (Lettered u) bs)

first_read : (u : Kind) (d : ℕ) → d < 10 → (bs : List ℕ) → steps_from (Lettered u) ((48 + d) ∷ bs) ≡ steps_from (numbered u d) bs
first_read u d h bs = ap (λ o. gone_on (λ next. steps_from next bs) (option_map (λ n. within (numbered u n)) o)) (digit_back d h) ∙ none_done (steps_from (numbered u d) bs)

next_read : (u : Kind) (n d m : ℕ) → 1 ≤ n → d < 10 → m < 65536 → m ≡ n * 10 + d → (bs : List ℕ) → steps_from (numbered u n) ((48 + d) ∷ bs) ≡ steps_from (numbered u m) bs
next_read u n d m l h s e bs =
    let apart : nat_eq (48 + d) 47 ≡ false = ne_eqb (48 + d) 47 (λ q. omega arith) in
    let digit = grown_back n d m l h s e in
    let t : turned (numbered u n) (48 + d) ≡ Some (within (numbered u m)) = λ i. cond (apart i) (Some (record { done = Some (record { unit = u; number = n }); next = Start })) (option_map (λ k. within (numbered u k)) (digit i)) in
    ap (gone_on (λ next. steps_from next bs)) t ∙ none_done (steps_from (numbered u m) bs)

digits_read : (u : Kind) (n : ℕ) → n < 65536 → (bs : List ℕ) → steps_from (Lettered u) (decimal n ++ bs) ≡ steps_from (numbered u n) bs
digits_read u n h = decimal_by_steps P (λ k l s bs. first_read u k l bs) more n (wide n h) h
  where
    P : ℕ → List ℕ → Type 0
    P k ds = k < 65536 → (bs : List ℕ) → steps_from (Lettered u) (ds ++ bs) ≡ steps_from (numbered u k) bs

    more : (k : ℕ) (ds : List ℕ) → 10 ≤ k → P (k / 10) ds → P k (ds ++ ((48 + k % 10) ∷ []))
    more k ds l on s bs =
        ap (steps_from (Lettered u)) (append_assoc ds ((48 + k % 10) ∷ []) bs) ∙ on (omega arith) ((48 + k % 10) ∷ bs)
        ∙ next_read u (k / 10) (k % 10) k (omega arith) (omega arith) s (omega arith) bs

step_read : (s : Step) → Short s → (bs : List ℕ) → steps_from Start (step_text s ++ bs) ≡ steps_from (Numbered s) bs
step_read s h bs = letter_read s.unit (decimal s.number ++ bs) ∙ digits_read s.unit s.number h bs

rest_read : (code : List Step) (s : Step) → AllByRecursion Short code → steps_from (Numbered s) (flat_map slashed code) ≡ Some (s ∷ code)
rest_read [] s h = refl
rest_read (t ∷ code) s h = ap (option_map (with_done (Some s))) (step_read t h.0 (flat_map slashed code) ∙ rest_read code t h.1)

pub text_back : (code : List Step) → AllByRecursion Short code → spelled (text_of code) ≡ Ok code
text_back [] h = refl
text_back (s ∷ code) h = ap (λ o. ok_or o Unreadable) (step_read s h.0 (flat_map slashed code) ∙ rest_read code s h.1)

-- The whole.

fault_known : (o : Option (List Step)) (fault : TextFault) → ok_or o Unreadable ≡ Err fault → fault ≡ Unreadable
fault_known None fault e = cc
fault_known (Some code) fault e = absurd cc

spelled_fails : (t : List ℕ) (fault : TextFault) → spelled t ≡ Err fault → fault ≡ Unreadable
spelled_fails [] fault e = absurd cc
spelled_fails (b ∷ bs) fault e = fault_known (steps_from Start (b ∷ bs)) fault e

pub exact : (t : List ℕ) → Exact t (spelled t)
exact t = record {
  spells = λ code. (spelled_own t code, λ p. subst (λ v. spelled v ≡ Ok code) p.0 (text_back code p.1));
  fails = spelled_fails t;
}

pub own_text : OwnText spelled text_of
own_text t code e = (spelled_own t code e).0
