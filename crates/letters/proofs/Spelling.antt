-- A text spelled letter by letter, and a code's text.
use Rattle.std.specs.Prelude.{◌≡◌, ℕ, ◌+◌, ◌<◌, ◌≤◌, List, [], ◌∷◌, ◌++◌, length, take, drop, set, Ok, Err, Result, slice_index, slice_index_or, slice_set, refl}
use Rattle.std.proofs.Common.{sym, ap, ◌∙◌, arith}
use Rattle.std.proofs.lemmas.List.{take_all, take_more, take-append-drop, drop_more, map_more, set_at, append_assoc, length-take-le, length-map}
use Rattle.symbols.specs.declared.SymbolFault.{SymbolFault}
use Rattle.texts.specs.declared.TextFault.{TextFault}
use Rattle.texts.specs.declared.TextFault.TheVariants.{Symbol}
use Rattle.letters.specs.Letters.{byte_of, letter_of}
use Rattle.letters.specs.Codes.{text_of, behind, spelled}
use Rattle.letters.specs.declared.Letter.{Letter}
use Rattle.letters.specs.Bytes.{byte_back}

-- a code's text spells it
pub text_back : (code : List Letter) → spelled (text_of code) ≡ Ok code
text_back [] = refl
text_back (x ∷ code) = rw (byte_back x, text_back code)

abbrev joined : Result (List Letter) TextFault → Result (List Letter) TextFault → Result (List Letter) TextFault
joined (Err fault) r = Err fault
joined (Ok xs) (Err fault) = Err fault
joined (Ok xs) (Ok ys) = Ok (xs ++ ys)

none_before : (r : Result (List Letter) TextFault) → r ≡ joined (Ok []) r
none_before (Ok x) = refl
none_before (Err fault) = refl

one_before : (x : Result Letter SymbolFault) (r s : Result (List Letter) TextFault) → behind x (joined r s) ≡ joined (behind x r) s
one_before (Err fault) r s = refl
one_before (Ok x) (Err fault) s = refl
one_before (Ok x) (Ok xs) (Err fault) = refl
one_before (Ok x) (Ok xs) (Ok ys) = refl

spelled-++ : (xs ys : List ℕ) → spelled (xs ++ ys) ≡ joined (spelled xs) (spelled ys)
spelled-++ [] ys = none_before (spelled ys)
spelled-++ (b ∷ xs) ys = ap (behind (letter_of b)) (spelled-++ xs ys) ∙ one_before (letter_of b) (spelled xs) (spelled ys)

-- one letter more, and a byte that is none
pub spelled_more : (from : List ℕ) (code : List Letter) (i : ℕ) (x : Letter) → i < length from → spelled (take i from) ≡ Ok code → Ok x ≡ letter_of (slice_index from i) → spelled (take (i + 1) from) ≡ Ok (code ++ x ∷ [])
spelled_more from code i x l h e =
    ap spelled (take_more from i 0 l) ∙ spelled-++ (take i from) (slice_index from i ∷ []) ∙ (λ j. joined (h j) (behind (sym e j) (Ok [])))

pub spelled_stops : (from : List ℕ) (code : List Letter) (i : ℕ) (fault : SymbolFault) → i < length from → spelled (take i from) ≡ Ok code → Err fault ≡ letter_of (slice_index from i) → spelled from ≡ Err (Symbol fault)
spelled_stops from code i fault l h e =
    ap spelled (sym (take-append-drop i from) ∙ ap (λ s. take i from ++ s) (drop_more from i 0 l)) ∙ spelled-++ (take i from) (slice_index from i ∷ drop (i + 1) from)
    ∙ (λ j. joined (h j) (behind (sym e j) (spelled (drop (i + 1) from))))

-- the text of a code written up to place i, with what was there after it, and one byte more
pub written_more : (code : List Letter) (old : List ℕ) (i : ℕ) (d : Letter) → i < length code → i < length old → slice_set (text_of (take i code) ++ drop i old) i (byte_of (slice_index_or code i d)) ≡ text_of (take (i + 1) code) ++ drop (i + 1) old
written_more code old i d l m =
    let long : length (text_of (take i code)) ≡ i = length-map (take i code) byte_of ∙ length-take-le i code (omega arith) in
    ap (λ s. set (text_of (take i code) ++ s) i (byte_of (slice_index_or code i d))) (drop_more old i 0 m)
    ∙ set_at (text_of (take i code)) (slice_index old i) (drop (i + 1) old) (byte_of (slice_index_or code i d)) i long
    ∙ sym (append_assoc (text_of (take i code)) (byte_of (slice_index_or code i d) ∷ []) (drop (i + 1) old))
    ∙ ap (λ s. s ++ drop (i + 1) old) (sym (map_more byte_of code i d l))

pub spelled_all : (from : List ℕ) (code : List Letter) (i : ℕ) → length from ≤ i → spelled (take i from) ≡ Ok code → spelled from ≡ Ok code
spelled_all from code i l h = ap spelled (sym (take_all i from l)) ∙ h
