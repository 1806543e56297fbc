-- A line that is ended, and the text of a refusal.
use Rattle.std.proofs.Common.{◌≡◌, ℕ, ◌+◌, ◌-◌, ◌<◌, ◌≤◌, List, [], ◌∷◌, ◌++◌, length, get_or, take, drop, set, codes, decimal, sym, refl, ap, ◌∙◌, arith}
use Rattle.std.proofs.lemmas.List.{append_assoc, drop_more, set_at, take_at, length-append}
use Rattle.texts.specs.Texts.{Starts}
use Rattle.commands.specs.Answers.{ended, refused_text}

-- a text that stands at the start of an output, by the answer
pub starts : (text old new : List ℕ) (n : ℕ) → length text ≤ length old → n ≡ length text → new ≡ text ++ drop n old → Starts text old new n
starts text old new n l e h = (l, e, h ∙ ap (λ k. text ++ drop k old) e)

-- a line feed after the text
pub line_fed : (text old : List ℕ) (n : ℕ) → n ≡ length text → n < length old → set (text ++ drop n old) n 10 ≡ ended text ++ drop (n + 1) old
line_fed text old n e l =
    ap (λ s. set (text ++ s) n 10) (drop_more old n 0 l) ∙ set_at text (get_or old n 0) (drop (n + 1) old) 10 n (sym e)
    ∙ sym (append_assoc text (10 ∷ []) (drop (n + 1) old))

pub line_copied : (text old copied : List ℕ) → copied ≡ text → length text < length old → set (copied ++ drop (length text - 0) old) (length text) 10 ≡ ended text ++ drop (length text + 1) old
line_copied text old copied e l =
    let all : length text - 0 ≡ length text = omega arith in
    (λ j. set (e j ++ drop (all j) old) (length text) 10) ∙ line_fed text old (length text) refl l

-- the text of a refusal, before what is left of the room for it
pub refused_front : (n : ℕ) (digits copied past : List ℕ) → copied ≡ digits → digits ≡ decimal n → take (8 + length digits) (codes "REFUSED " ++ (copied ++ past)) ≡ refused_text n
refused_front n digits copied past e h =
    let long : length (codes "REFUSED " ++ digits) ≡ 8 + length digits = length-append (codes "REFUSED ") digits in
    ap (λ s. take (8 + length digits) (codes "REFUSED " ++ (s ++ past))) e ∙ take_at (codes "REFUSED " ++ digits) past (8 + length digits) long ∙ ap (λ s. codes "REFUSED " ++ s) h
