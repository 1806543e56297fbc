-- Reading from left to right, as a computation: a means of the proofs. What is to be found is said in Grammar and
-- Hexadecimals.
use Rattle.std.specs.Prelude.{ℕ, ◌%◌, Bool, true, false, cond, not, ◌&&◌, ◌||◌, List, [], ◌∷◌, length, Some, None, codes, Option, ◌==◌, nat_le, nat_lt}
use Rattle.std.specs.Borrow.{Bor}
use Rattle.std.specs.List.{list_all}
use Rattle.std.specs.Option.{option_map, option_and_then}
use Rattle.std.specs.Str.{bytes_eq}
use Rattle.texts.specs.Decimals.{pushed}
use Rattle.commands.specs.declared.command.Word.{Word}
use Rattle.commands.specs.declared.command.Word.TheVariants as words
use Rattle.commands.specs.Grammar.{Line, add, remove, holds, under, count, write, pick, join, receive}

-- borrowed parts of a text, as they read
abbrev pub texts : Bor (List ℕ) × Bor (List ℕ) → List ℕ × List ℕ
texts p = (p.0.now, p.1.now)

abbrev pub listed_text : ℕ × Bor (List ℕ) → ℕ × List ℕ
listed_text p = (p.0, p.1.now)

-- one more byte in front of a field
abbrev pub longer : ℕ → Option (List ℕ × List ℕ) → Option (List ℕ × List ℕ)
longer b None = None
longer b (Some p) = Some (b ∷ p.0, p.1)

-- what stands before the first space, and what stands after it
abbrev pub field_of : List ℕ → Option (List ℕ × List ℕ)
field_of [] = None
field_of (b ∷ bs) = cond (b == 32) (Some ([], bs)) (longer b (field_of bs))

-- the number that digits write after n
abbrev pub number_after : ℕ → List ℕ → Option ℕ
number_after n [] = Some n
number_after n (b ∷ bs) = option_and_then (λ m. number_after m bs) (pushed n b)

-- some digits, with no zero that leads others
abbrev pub plain : List ℕ → Bool
plain [] = false
plain (b ∷ []) = true
plain (b ∷ c ∷ bs) = not (b == 48)

-- a number of 64 bits in decimal
abbrev pub number_of : List ℕ → Option ℕ
number_of bs = cond (plain bs) (number_after 0 bs) None

-- the same number, if it stays below 2 ^ 32
abbrev pub narrow : ℕ → Option ℕ
narrow n = cond (nat_lt 4294967295 n) None (Some n)

-- a number of 32 bits in decimal
abbrev pub narrow_of : List ℕ → Option ℕ
narrow_of bs = option_and_then narrow (number_of bs)

-- a number of 32 bits, then what remains
abbrev pub listed : List ℕ → Option (ℕ × List ℕ)
listed bs = option_and_then (λ p. option_map (λ n. (n, p.1)) (narrow_of p.0)) (field_of bs)

-- hexadecimal text: digits alone, an even number of them
abbrev pub is_digit : ℕ → Bool
is_digit b = (nat_le 48 b && nat_le b 57) || (nat_le 97 b && nat_le b 102)

abbrev pub all_digits : List ℕ → Bool
all_digits bs = list_all is_digit bs

abbrev pub is_text : List ℕ → Bool
is_text bs = all_digits bs && length bs % 2 == 0

-- the word that a command begins with
abbrev pub word_of : List ℕ → Option Word
word_of bs =
    cond (bytes_eq bs (codes "ADD")) (Some words.Add)
    (cond (bytes_eq bs (codes "REMOVE")) (Some words.Remove)
    (cond (bytes_eq bs (codes "HOLDS")) (Some words.Holds)
    (cond (bytes_eq bs (codes "UNDER")) (Some words.Under)
    (cond (bytes_eq bs (codes "COUNT")) (Some words.Count)
    (cond (bytes_eq bs (codes "WRITE")) (Some words.Write)
    (cond (bytes_eq bs (codes "PICK")) (Some words.Pick)
    (cond (bytes_eq bs (codes "JOIN")) (Some words.Join)
    (cond (bytes_eq bs (codes "RECEIVE")) (Some words.Receive) None))))))))

-- what a word and the text after it say
abbrev pub fields_of : List ℕ → Word → Option Line
fields_of bs words.Add = option_map (λ q. add q.0 q.1) (listed bs)
fields_of bs words.Remove = option_map (λ q. remove q.0 q.1) (listed bs)
fields_of bs words.Holds = option_map (λ q. holds q.0 q.1) (listed bs)
fields_of bs words.Under = option_map (λ q. under q.0 q.1) (listed bs)
fields_of bs words.Count = option_map count (narrow_of bs)
fields_of bs words.Write = option_map write (narrow_of bs)
fields_of bs words.Pick = option_and_then (λ q. option_map (pick q.0) (number_of q.1)) (listed bs)
fields_of bs words.Join = option_and_then (λ q. option_and_then (λ p. option_map (join q.0 p.0) (narrow_of p.1)) (listed q.1)) (listed bs)
fields_of bs words.Receive = cond (is_text bs) (Some (receive bs)) None

-- what a line says, however long it is
abbrev pub line_of : List ℕ → Option Line
line_of bs = option_and_then (λ p. option_and_then (fields_of p.1) (word_of p.0)) (field_of bs)
