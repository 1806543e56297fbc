-- How many are marked, counted from the last place down: a mark on a lower place changes nothing above it.
use Rattle.std.proofs.Common.{◌≡◌, ℕ, zero, suc, ◌+◌, ◌-◌, ◌<◌, ◌≤◌, Bool, true, false, cond, ◌↔◌, List, [], ◌∷◌, length, get_or, drop, count_by, sym, refl, ap, ◌∙◌, arith}
use Rattle.std.specs.Int.{from_bool}
use Rattle.std.proofs.lemmas.List.{drop-set-lt, drop_more}
use Rattle.std.proofs.lemmas.List.Sums.{sum_by-cons}
use Rattle.ledger.specs.Gather.{Marked}
use Rattle.memory.specs.declared.work.Place.{Place}
use Rattle.memory.specs.Shelves.{is_mark, marks_in}
use Rattle.memory.specs.Spreading.{with_mark}

-- how many marks there are
abbrev pub many : List Bool → ℕ
many ms = count_by (λ (b : Bool). b) ms

pub many_marks : (ps : List Place) → count_by is_mark ps ≡ many (marks_in ps)
many_marks [] = refl
many_marks (p ∷ ps) =
    sum_by-cons (λ (q : Place). cond (is_mark q) 1 0) p ps ∙ ap (λ n. cond (is_mark p) 1 0 + n) (many_marks ps) ∙
    sym (sum_by-cons (λ (b : Bool). cond b 1 0) (is_mark p) (marks_in ps))

-- a mark below a number
pub mark_below : (ms : List Bool) (n k : ℕ) → k < n → drop (n - 2) (with_mark ms k) ≡ drop (n - 2) ms
mark_below ms n zero h = refl
mark_below ms n (suc zero) h = refl
mark_below ms n (suc (suc k)) h = drop-set-lt (n - 2) ms k true (omega arith)

same_bool : (b c : Bool) → (b ≡ true) ↔ (c ≡ true) → b ≡ c
same_bool true true h = refl
same_bool false false h = refl
same_bool true false h = sym (h.0 refl)
same_bool false true h = h.1 refl

abbrev pub one_if : Bool → ℕ
one_if b = cond b 1 0

pub one_byte : (b : Bool) → from_bool b ≡ one_if b
one_byte true = refl
one_byte false = refl

-- a number's own mark, and those above it
pub many_more : (ms : List Bool) (n : ℕ) (b : Bool) → 2 ≤ n → n ≤ length ms + 1 → (b ≡ true) ↔ Marked ms n →
    many (drop (n - 2) ms) ≡ many (drop (n - 1) ms) + one_if b
many_more ms zero b l h m = absurd (omega arith)
many_more ms (suc zero) b l h m = absurd (omega arith)
many_more ms (suc (suc k)) b l h m =
    let here : suc (suc k) - 2 ≡ k = omega arith in
    let above : suc (suc k) - 1 ≡ k + 1 = omega arith in
    let own : b ≡ get_or ms k false = same_bool b (get_or ms k false) m in
    let parts = sum_by-cons (λ (c : Bool). cond c 1 0) (get_or ms k false) (drop (k + 1) ms) in
    let whole : many (drop k ms) ≡ one_if (get_or ms k false) + many (drop (k + 1) ms) = ap many (drop_more ms k false (omega arith)) ∙ parts in
    let turned : one_if (get_or ms k false) ≡ one_if b = ap one_if (sym own) in
    rw here (rw above (omega (arith, whole, turned)))
