-- Hexadecimal text, digit by digit and pair by pair.
use Rattle.std.proofs.Common.{◌≡◌, ℕ, ◌+◌, ◌-◌, ◌*◌, ◌/◌, ◌%◌, ◌<◌, ◌≤◌, Bool, true, false, ◌&&◌, eqb, leb, List, [], ◌∷◌, ◌++◌, length, get_or, take, drop, set, sym, refl, ap, ◌∙◌, subst, arith}
use Rattle.std.proofs.lemmas.Nat.{div-mul-add, mod-mul-add}
use Rattle.std.proofs.ByRecursion.{All-push}
use Rattle.std.proofs.lemmas.List.{at_drop_more, at_drop_all, append_assoc, take_more, take_more_set, drop_more, drop-set-lt, drop-drop, set_at, length-append, length-take-le}
use Rattle.std.proofs.lemmas.Bool.{and_parts, eqb-true, eq-eqb}
use Rattle.std.proofs.lemmas.Bool.Decides.{nat_tests}
use Rattle.commands.specs.Hexadecimals.{digit, hexadecimal, Bytes, Writes, Hexadecimal}
use Rattle.commands.specs.Reading.{is_digit, all_digits, is_text}

-- the test of a text, as a loop goes over it
module _ (bs : List ℕ) (i : ℕ) where
  pub text_stops : i < length bs → all_digits bs ≡ all_digits (drop i bs) → is_digit (get_or bs i 0) ≡ false → all_digits bs ≡ false
  text_stops l h e =
      let here : all_digits (drop i bs) ≡ (is_digit (get_or bs i 0) && all_digits (drop (i + 1) bs)) = at_drop_more all_digits bs i 0 l in
      h ∙ here ∙ ap (λ t. t && all_digits (drop (i + 1) bs)) e

  pub text_more : i < length bs → all_digits bs ≡ all_digits (drop i bs) → is_digit (get_or bs i 0) ≡ true → all_digits bs ≡ all_digits (drop (i + 1) bs)
  text_more l h e =
      let here : all_digits (drop i bs) ≡ (is_digit (get_or bs i 0) && all_digits (drop (i + 1) bs)) = at_drop_more all_digits bs i 0 l in
      h ∙ here ∙ ap (λ t. t && all_digits (drop (i + 1) bs)) e

  pub text_ends : length bs ≤ i → all_digits bs ≡ all_digits (drop i bs) → all_digits bs ≡ true
  text_ends l h = h ∙ at_drop_all all_digits bs i l

-- the number that a digit stands for
digit_below : (b : ℕ) → is_digit b ≡ true → (v : ℕ) × (v < 16) × (digit v ≡ b)
digit_below b h = by (leb b 57) refl
  where
    by : (t : Bool) → leb b 57 ≡ t → (v : ℕ) × (v < 16) × (digit v ≡ b)
    by true e = (b - 48, grind (arith, nat_tests), grind (arith, nat_tests))
    by false e = (b - 87, grind (arith, nat_tests), grind (arith, nat_tests))

-- a text that passes the test writes bytes
hex_from : (bs : List ℕ) → all_digits bs ≡ true → length bs % 2 ≡ 0 → Hexadecimal bs
hex_from [] h e = ([], (tt, refl))
hex_from (a ∷ []) h e = absurd (omega arith)
hex_from (a ∷ b ∷ bs) h e =
    let p = and_parts (is_digit a) (is_digit b && all_digits bs) h in
    let q = and_parts (is_digit b) (all_digits bs) p.1 in
    let high = digit_below a p.0 in
    let low = digit_below b q.0 in
    let rest = hex_from bs q.1 (omega arith) in
    let over : (high.0 * 16 + low.0) / 16 ≡ high.0 = div-mul-add high.0 16 low.0 low.1 in
    let under : (high.0 * 16 + low.0) % 16 ≡ low.0 = mod-mul-add high.0 16 low.0 low.1 in (
      (high.0 * 16 + low.0) ∷ rest.0,
      ((omega (arith, high.1, low.1), rest.1.0), rw (over, under, high.2, low.2, rest.1.1)),
    )

pub text_sound : (bs : List ℕ) → is_text bs ≡ true → Hexadecimal bs
text_sound bs h =
    let p = and_parts (all_digits bs) (eqb (length bs % 2) 0) h in
    hex_from bs p.0 (eqb-true _ _ p.1)

pub length_hex : (bs : List ℕ) → length (hexadecimal bs) ≡ 2 * length bs
length_hex [] = refl
length_hex (b ∷ bs) = omega (arith, length_hex bs)

digit_is : (n : ℕ) → n < 16 → is_digit (digit n) ≡ true
digit_is n h = grind (arith, nat_tests)

all_hex : (bs : List ℕ) → Bytes bs → all_digits (hexadecimal bs) ≡ true
all_hex [] h = refl
all_hex (b ∷ bs) h = rw (digit_is (b / 16) (omega (arith, h.0)), digit_is (b % 16) (omega arith), all_hex bs h.1)

pub text_complete : (text : List ℕ) → Hexadecimal text → is_text text ≡ true
text_complete text h =
    let all : all_digits text ≡ true = ap all_digits (sym h.1.1) ∙ all_hex h.0 h.1.0 in
    let even : eqb (length text % 2) 0 ≡ true = eq-eqb _ _ (omega (arith, ap length h.1.1, length_hex h.0)) in
    rw (all, even)

-- a text writes one run of bytes at most
digit_once : (m n : ℕ) → m < 16 → n < 16 → digit m ≡ digit n → m ≡ n
digit_once m n h k e = grind (arith, nat_tests)

same_from_hex : (xs ys : List ℕ) → Bytes xs → Bytes ys → hexadecimal xs ≡ hexadecimal ys → xs ≡ ys
same_from_hex [] [] h k e = refl
same_from_hex [] (y ∷ ys) h k e = absurd (omega (arith, ap length e))
same_from_hex (x ∷ xs) [] h k e = absurd (omega (arith, ap length e))
same_from_hex (x ∷ xs) (y ∷ ys) h k e =
    let high : digit (x / 16) ≡ digit (y / 16) = cc in
    let low : digit (x % 16) ≡ digit (y % 16) = cc in
    let rest : hexadecimal xs ≡ hexadecimal ys = cc in
    let over = digit_once (x / 16) (y / 16) (omega (arith, h.0)) (omega (arith, k.0)) high in
    let under = digit_once (x % 16) (y % 16) (omega arith) (omega arith) low in
    let first : x ≡ y = omega arith in
    let others = same_from_hex xs ys h.1 k.1 rest in
    cc

pub hex_once : (text these those : List ℕ) → Writes text these → Writes text those → these ≡ those
hex_once text these those h k = same_from_hex these those h.0 k.0 (h.1 ∙ sym k.1)

-- the loop of a text that is read
pub hex-++ : (xs ys : List ℕ) → hexadecimal (xs ++ ys) ≡ hexadecimal xs ++ hexadecimal ys
hex-++ [] ys = refl
hex-++ (x ∷ xs) ys = ap (λ s. digit (x / 16) ∷ digit (x % 16) ∷ s) (hex-++ xs ys)

take_two : (xs : List ℕ) (j : ℕ) → j + 1 < length xs → take (j + 1 + 1) xs ≡ take j xs ++ (get_or xs j 0 ∷ get_or xs (j + 1) 0 ∷ [])
take_two xs j h =
    take_more xs (j + 1) 0 h ∙ ap (λ s. s ++ (get_or xs (j + 1) 0 ∷ [])) (take_more xs j 0 (omega arith))
    ∙ append_assoc (take j xs) (get_or xs j 0 ∷ []) (get_or xs (j + 1) 0 ∷ [])

pub read_more : (hex out : List ℕ) (i v : ℕ) → 2 * i + 1 < length hex → i < length out → digit (v / 16) ≡ get_or hex (2 * i) 0 → digit (v % 16) ≡ get_or hex (2 * i + 1) 0 → hexadecimal (take i out) ≡ take (2 * i) hex → hexadecimal (take (i + 1) (set out i v)) ≡ take (2 * (i + 1)) hex
read_more hex out i v l m high low h =
    let next : 2 * (i + 1) ≡ 2 * i + 1 + 1 = omega arith in
    ap hexadecimal (take_more_set out i v m) ∙ hex-++ (take i out) (v ∷ [])
    ∙ (λ j. h j ++ (high j ∷ low j ∷ []))
    ∙ sym (take_two hex (2 * i) l)
    ∙ ap (λ n. take n hex) (sym next)

pub bytes_more : (out : List ℕ) (i v : ℕ) → i < length out → v < 256 → Bytes (take i out) → Bytes (take (i + 1) (set out i v))
bytes_more out i v l small h =
    subst Bytes (sym (take_more_set out i v l)) (All-push (λ b. b < 256) (take i out) v h small)

pub kept_more : (out old : List ℕ) (i v : ℕ) → drop i out ≡ drop i old → drop (i + 1) (set out i v) ≡ drop (i + 1) old
kept_more out old i v h = drop-set-lt (i + 1) out i v (omega arith) ∙ sym (drop-drop 1 i out) ∙ ap (drop 1) h ∙ drop-drop 1 i old

-- the loop of bytes that are written
pub write_more : (bytes old : List ℕ) (i : ℕ) → i < length bytes → 2 * i + 1 < length old → set (set (hexadecimal (take i bytes) ++ drop (2 * i) old) (2 * i) (digit (get_or bytes i 0 / 16))) (2 * i + 1) (digit (get_or bytes i 0 % 16)) ≡ hexadecimal (take (i + 1) bytes) ++ drop (2 * (i + 1)) old
write_more bytes old i l m =
    let front = hexadecimal (take i bytes) in
    let high = digit (get_or bytes i 0 / 16) in
    let low = digit (get_or bytes i 0 % 16) in
    let long : length front ≡ 2 * i = omega (arith, length_hex (take i bytes), length-take-le i bytes (omega arith)) in
    let next : 2 * (i + 1) ≡ 2 * i + 1 + 1 = omega arith in
    let longer : length (front ++ (high ∷ [])) ≡ 2 * i + 1 = omega (arith, length-append front (high ∷ [])) in
    ap (λ s. set (set (front ++ s) (2 * i) high) (2 * i + 1) low) (drop_more old (2 * i) 0 (omega arith))
    ∙ ap (λ s. set s (2 * i + 1) low) (set_at front (get_or old (2 * i) 0) (drop (2 * i + 1) old) high (2 * i) long)
    ∙ ap (λ s. set (front ++ (high ∷ s)) (2 * i + 1) low) (drop_more old (2 * i + 1) 0 m)
    ∙ ap (λ s. set s (2 * i + 1) low) (sym (append_assoc front (high ∷ []) (get_or old (2 * i + 1) 0 ∷ drop (2 * i + 1 + 1) old)))
    ∙ set_at (front ++ (high ∷ [])) (get_or old (2 * i + 1) 0) (drop (2 * i + 1 + 1) old) low (2 * i + 1) longer
    ∙ append_assoc front (high ∷ []) (low ∷ drop (2 * i + 1 + 1) old)
    ∙ sym (append_assoc front (high ∷ low ∷ []) (drop (2 * i + 1 + 1) old))
    ∙ ap (λ s. s ++ drop (2 * i + 1 + 1) old) (sym (hex-++ (take i bytes) (get_or bytes i 0 ∷ [])) ∙ ap hexadecimal (sym (take_more bytes i 0 l)))
    ∙ ap (λ n. hexadecimal (take (i + 1) bytes) ++ drop n old) (sym next)
