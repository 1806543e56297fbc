-- The lengths of texts, and a text written step after step.
use Rattle.std.proofs.Common.{◌≡◌, ℕ, ◌+◌, ◌-◌, ◌<◌, ◌≤◌, ◌↔◌, List, ◌∷◌, length, get_or, take, Some, None, decimal, Option, sym, ap, ◌∙◌, arith, length-append}
use Rattle.std.proofs.lemmas.List.{take_all}
use Rattle.std.proofs.lemmas.List.Folds.{length-flat_map-take}
use Rattle.std.specs.List.{flat_map}
use Rattle.std.specs.Option.{IsSome}
use Rattle.steps.specs.Paths.{step_text, slashed, text_of, laid}
use Rattle.steps.specs.declared.Step.{Step}
use Rattle.steps.proofs.Laying.{fronted, laid_first, laid_on, joined_next}

pub length_text : (first : Step) (rest : List Step) → length (text_of (first ∷ rest)) ≡ length (step_text first) + length (flat_map slashed rest)
length_text first rest = length-append (step_text first) (flat_map slashed rest)

pub length_next : (rest : List Step) (i : ℕ) (d : Step) → i < length rest → length (flat_map slashed (take (i + 1) rest)) ≡ length (flat_map slashed (take i rest)) + (1 + length (step_text (get_or rest i d)))
length_next rest i d h = ap length (joined_next slashed rest i d h) ∙ length-append (flat_map slashed (take i rest)) (slashed (get_or rest i d)) ∙ omega arith

-- a step that does not fit what is left after the steps before it
pub fits_no_more : (rest : List Step) (i k left start : ℕ) (d : Step) → i < length rest → k ≡ length (decimal (get_or rest i d).number) → left + length (flat_map slashed (take i rest)) ≡ start → (2 + k ≤ left → ⊥) → start < length (flat_map slashed rest)
fits_no_more rest i k left start d h e inv p =
    let part = length-flat_map-take slashed rest i d h in
    let short : left < 2 + k = omega arith in
    omega arith

-- and then there is no room for all
pub no_room : (first : Step) (rest : List Step) (room start k : ℕ) (r : Option ℕ) → r ≡ None → k ≡ length (decimal first.number) → (1 + k ≤ room) × (start ≡ room - (1 + k)) → start < length (flat_map slashed rest) → IsSome r ↔ (length (text_of (first ∷ rest)) ≤ room)
no_room first rest room start k None none e p h =
    let whole = length_text first rest in
    let fit = p.0 in
    let is = p.1 in
    (λ q. absurd cc, λ all. absurd (omega arith))
no_room first rest room start k (Some n) none e p h = absurd cc

-- there is room for the next step and its slash
pub room_next : (first : Step) (rest : List Step) (i a at n : ℕ) (d : Step) → i < length rest → a ≡ 0 + length (step_text first) → at ≡ a + length (flat_map slashed (take i rest)) → length (text_of (first ∷ rest)) ≤ n → at + length (slashed (get_or rest i d)) ≤ n
room_next first rest i a at n d h e inv fits =
    let whole = length_text first rest in
    let part = length-flat_map-take slashed rest i d h in
    omega arith

-- the next step behind its slash
pub end_next : (rest : List Step) (i a at r : ℕ) (d : Step) → i < length rest → at ≡ a + length (flat_map slashed (take i rest)) → r ≡ at + length (slashed (get_or rest i d)) → r ≡ a + length (flat_map slashed (take (i + 1) rest))
end_next rest i a at r d h inv e = let next = length_next rest i d h in omega arith

pub written_next : (rest : List Step) (i a at : ℕ) (out new start : List ℕ) (d : Step) → i < length rest → a ≤ length start → at ≡ a + length (flat_map slashed (take i rest)) → out ≡ laid a (flat_map slashed (take i rest)) start → new ≡ laid at (slashed (get_or rest i d)) out → new ≡ laid a (flat_map slashed (take (i + 1) rest)) start
written_next rest i a at out new start d h l e inv after =
    after ∙ ap (laid at (slashed (get_or rest i d))) inv ∙ laid_on a at (flat_map slashed (take i rest)) (slashed (get_or rest i d)) start l e ∙ ap (λ s. laid a s start) (sym (joined_next slashed rest i d h))

-- all steps are written
pub end_all : (first : Step) (rest : List Step) (i a at : ℕ) → length rest ≤ i → a ≡ 0 + length (step_text first) → at ≡ a + length (flat_map slashed (take i rest)) → at ≡ length (text_of (first ∷ rest))
end_all first rest i a at h e inv =
    let whole = length_text first rest in
    let all = ap (λ s. length (flat_map slashed s)) (take_all i rest h) in
    omega arith

pub written_all : (first : Step) (rest : List Step) (i a : ℕ) (out start old : List ℕ) → length rest ≤ i → a ≡ 0 + length (step_text first) → out ≡ laid a (flat_map slashed (take i rest)) start → start ≡ laid 0 (step_text first) old → out ≡ fronted (text_of (first ∷ rest)) old
written_all first rest i a out start old h e inv was =
    inv ∙ (λ j. laid a (flat_map slashed (take_all i rest h j)) (was j)) ∙ laid_on 0 a (step_text first) (flat_map slashed rest) old (omega arith) e ∙ laid_first (text_of (first ∷ rest)) old
