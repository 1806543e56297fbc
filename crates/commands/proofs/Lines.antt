-- A line is read as the command that it writes.
use Rattle.std.proofs.Common.{◌≡◌, ℕ, ◌^◌, ◌<◌, ◌≤◌, Bool, true, false, cond, eqb, ◌↔◌, List, [], ◌∷◌, ◌++◌, length, Some, None, codes, decimal, Option, sym, refl, ap, ◌∙◌, arith}
use Rattle.std.proofs.lemmas.Slice.Eq.{bytes_eq-Decides}
use Rattle.std.proofs.lemmas.Bool.{eqb-true, ne_eqb}
use Rattle.std.specs.Option.{option_map, option_and_then}
use Rattle.std.specs.Str.{bytes_eq}
use Rattle.commands.specs.declared.command.Word.{Word}
use Rattle.commands.specs.declared.command.Word.TheVariants as words
use Rattle.commands.specs.Grammar.{Line, add, remove, holds, under, count, write, pick, join, receive, spaced, written, InRange, Says}
use Rattle.commands.specs.Reading.{longer, field_of, number_of, narrow_of, listed, is_text, word_of, fields_of, line_of}
use Rattle.commands.proofs.Hexes.{text_sound, text_complete}
use Rattle.commands.proofs.Numbers.{Holds, holds_onto, holds_mapped, holds_weaker, holds_cond, Figures, Number, decimal_figures, number_sound, narrow_sound, number_decimal, narrow_decimal}

abbrev Parts : List ℕ → List ℕ × List ℕ → Type 0
Parts bs p = p.0 ++ (32 ∷ p.1) ≡ bs

longer_sound : (b : ℕ) (bs : List ℕ) (o : Option (List ℕ × List ℕ)) → Holds (Parts bs) o → Holds (Parts (b ∷ bs)) (longer b o)
longer_sound b bs None h = tt
longer_sound b bs (Some p) h = ap (λ s. b ∷ s) h

field_sound : (bs : List ℕ) → Holds (Parts bs) (field_of bs)
field_sound [] = tt
field_sound (b ∷ bs) =
    holds_cond (Parts (b ∷ bs)) (eqb b 32) ([], bs) (longer b (field_of bs)) (λ e. ap (λ x. x ∷ bs) (sym (eqb-true b 32 e)))
    (longer_sound b bs (field_of bs) (field_sound bs))

-- a field of digits ends at the first space
field_figures : (ds rest : List ℕ) → Figures ds → field_of (ds ++ (32 ∷ rest)) ≡ Some (ds, rest)
field_figures [] rest h = refl
field_figures (d ∷ ds) rest h =
    let apart : eqb d 32 ≡ false = ne_eqb d 32 (λ e. omega (arith, h.0)) in
    rw (apart, field_figures ds rest h.1)

-- a number and what stands after its space
abbrev Listed : List ℕ → ℕ × List ℕ → Type 0
Listed bs q = (q.0 < 2 ^ 32) × (decimal q.0 ++ (32 ∷ q.1) ≡ bs)

listed_sound : (bs : List ℕ) → Holds (Listed bs) (listed bs)
listed_sound bs =
    holds_onto (Parts bs) (Listed bs) (λ p. option_map (λ n. (n, p.1)) (narrow_of p.0)) (field_of bs) (field_sound bs)
    (λ p e.
    holds_mapped (Number 32 p.0) (Listed bs) (λ n. (n, p.1)) (narrow_of p.0) (narrow_sound p.0)
    (λ n h. (h.0, ap (λ s. s ++ (32 ∷ p.1)) h.1 ∙ e)))

listed_decimal : (n : ℕ) (rest : List ℕ) → n < 2 ^ 32 → listed (decimal n ++ (32 ∷ rest)) ≡ Some (n, rest)
listed_decimal n rest h = rw (field_figures (decimal n) rest (decimal_figures n (omega arith)), narrow_decimal n h)

-- words
abbrev word_text : Word → List ℕ
word_text words.Add = codes "ADD"
word_text words.Remove = codes "REMOVE"
word_text words.Holds = codes "HOLDS"
word_text words.Under = codes "UNDER"
word_text words.Count = codes "COUNT"
word_text words.Write = codes "WRITE"
word_text words.Pick = codes "PICK"
word_text words.Join = codes "JOIN"
word_text words.Receive = codes "RECEIVE"

abbrev Named : List ℕ → Word → Type 0
Named bs w = word_text w ≡ bs

word_step : (bs : List ℕ) (w : Word) (o : Option Word) → Holds (Named bs) o → Holds (Named bs) (cond (bytes_eq bs (word_text w)) (Some w) o)
word_step bs w o h = holds_cond (Named bs) (bytes_eq bs (word_text w)) w o (λ e. sym ((bytes_eq-Decides bs (word_text w)).0 e)) h

word_sound : (bs : List ℕ) → Holds (Named bs) (word_of bs)
word_sound bs =
    word_step bs words.Add _
    (word_step bs words.Remove _
    (word_step bs words.Holds _
    (word_step bs words.Under _
    (word_step bs words.Count _
    (word_step bs words.Write _
    (word_step bs words.Pick _
    (word_step bs words.Join _
    (word_step bs words.Receive None tt))))))))

-- what a word's fields say is in range, and written there
abbrev Fielded : List ℕ → List ℕ → Line → Type 0
Fielded word bs l = InRange l × (written l ≡ spaced word (bs ∷ []))

abbrev after_word : List ℕ → List ℕ → List ℕ
after_word word s = word ++ (32 ∷ s)

receive_sound : (bs : List ℕ) (t : Bool) → is_text bs ≡ t → Holds (Fielded (codes "RECEIVE") bs) (cond t (Some (receive bs)) None)
receive_sound bs true e = (text_sound bs e, refl)
receive_sound bs false e = tt

fields_sound : (bs : List ℕ) (w : Word) → Holds (Fielded (word_text w) bs) (fields_of bs w)
fields_sound bs words.Add =
    holds_mapped (Listed bs) (Fielded (codes "ADD") bs) (λ q. add q.0 q.1) (listed bs) (listed_sound bs) (λ q h. (h.0, ap (after_word (codes "ADD")) h.1))
fields_sound bs words.Remove =
    holds_mapped (Listed bs) (Fielded (codes "REMOVE") bs) (λ q. remove q.0 q.1) (listed bs) (listed_sound bs) (λ q h. (h.0, ap (after_word (codes "REMOVE")) h.1))
fields_sound bs words.Holds =
    holds_mapped (Listed bs) (Fielded (codes "HOLDS") bs) (λ q. holds q.0 q.1) (listed bs) (listed_sound bs) (λ q h. (h.0, ap (after_word (codes "HOLDS")) h.1))
fields_sound bs words.Under =
    holds_mapped (Listed bs) (Fielded (codes "UNDER") bs) (λ q. under q.0 q.1) (listed bs) (listed_sound bs) (λ q h. (h.0, ap (after_word (codes "UNDER")) h.1))
fields_sound bs words.Count =
    holds_mapped (Number 32 bs) (Fielded (codes "COUNT") bs) count (narrow_of bs) (narrow_sound bs) (λ n h. (h.0, ap (after_word (codes "COUNT")) h.1))
fields_sound bs words.Write =
    holds_mapped (Number 32 bs) (Fielded (codes "WRITE") bs) write (narrow_of bs) (narrow_sound bs) (λ n h. (h.0, ap (after_word (codes "WRITE")) h.1))
fields_sound bs words.Pick =
    holds_onto (Listed bs) (Fielded (codes "PICK") bs) (λ q. option_map (pick q.0) (number_of q.1)) (listed bs) (listed_sound bs)
    (λ q h.
    holds_mapped (Number 64 q.1) (Fielded (codes "PICK") bs) (pick q.0) (number_of q.1) (number_sound q.1)
    (λ k e. ((h.0, e.0), ap (λ s. after_word (codes "PICK") (after_word (decimal q.0) s)) e.1 ∙ ap (after_word (codes "PICK")) h.1)))
fields_sound bs words.Join =
    holds_onto (Listed bs) (Fielded (codes "JOIN") bs) (λ q. option_and_then (λ p. option_map (join q.0 p.0) (narrow_of p.1)) (listed q.1)) (listed bs) (listed_sound bs)
    (λ q h.
    holds_onto (Listed q.1) (Fielded (codes "JOIN") bs) (λ p. option_map (join q.0 p.0) (narrow_of p.1)) (listed q.1) (listed_sound q.1)
    (λ p f.
    holds_mapped (Number 32 p.1) (Fielded (codes "JOIN") bs) (join q.0 p.0) (narrow_of p.1) (narrow_sound p.1)
    (λ n e. (
      (h.0, f.0, e.0),
      ap (λ s. after_word (codes "JOIN") (after_word (decimal q.0) (after_word (decimal p.0) s))) e.1
          ∙ ap (λ s. after_word (codes "JOIN") (after_word (decimal q.0) s)) f.1
          ∙ ap (after_word (codes "JOIN")) h.1,
    ))))
fields_sound bs words.Receive = receive_sound bs (is_text bs) refl

-- a line that is read writes what it is read as
abbrev Written : List ℕ → Line → Type 0
Written bs l = InRange l × (written l ≡ bs)

line_sound : (bs : List ℕ) → Holds (Written bs) (line_of bs)
line_sound bs =
    holds_onto (Parts bs) (Written bs) (λ p. option_and_then (fields_of p.1) (word_of p.0)) (field_of bs) (field_sound bs)
    (λ p e.
    holds_onto (Named p.0) (Written bs) (fields_of p.1) (word_of p.0) (word_sound p.0)
    (λ w n.
    holds_weaker (Fielded (word_text w) p.1) (Written bs) (fields_of p.1 w) (fields_sound p.1 w)
    (λ l h. (h.0, h.1 ∙ ap (λ s. after_word s p.1) n ∙ e))))

-- a line that writes a command is read as that command
line_written : (l : Line) → InRange l → line_of (written l) ≡ Some l
line_written (add n code) h = rw (listed_decimal n code h)
line_written (remove n code) h = rw (listed_decimal n code h)
line_written (holds n code) h = rw (listed_decimal n code h)
line_written (under n code) h = rw (listed_decimal n code h)
line_written (count n) h = rw (narrow_decimal n h)
line_written (write n) h = rw (narrow_decimal n h)
line_written (pick n k) h = rw (listed_decimal n (decimal k) h.0, number_decimal k h.1)
line_written (join rule m n) h = rw (listed_decimal rule (decimal m ++ (32 ∷ decimal n)) h.0, listed_decimal m (decimal n) h.1, narrow_decimal n h.2)
line_written (receive text) h = rw (text_complete text h)

at_some : {A : Type 0} (P : A → Type 0) (o : Option A) (x : A) → Holds P o → o ≡ Some x → P x
at_some P None x h e = absurd cc
at_some P (Some y) x h e = let same : y ≡ x = cc in rw same at h

pub line_says : (bs : List ℕ) (o : Option Line) → length bs ≤ 8192 → o ≡ line_of bs → (l : Line) → (o ≡ Some l) ↔ Says bs l
line_says bs o short e l = (
  (λ h. let w = at_some (Written bs) (line_of bs) l (line_sound bs) (sym e ∙ h) in (w.0, w.1, short)),
  (λ s. e ∙ ap line_of (sym s.1) ∙ line_written l s.0),
)

-- nothing is found exactly if there is nothing to find
pub none_says : {A : Type 0} (P : A → Type 0) (o : Option A) → ((x : A) → (o ≡ Some x) ↔ P x) → (o ≡ None) ↔ ((x : A) → P x → ⊥)
none_says P None h = ((λ _ x p. let e = (h x).1 p in cc), λ _. refl)
none_says P (Some y) h = ((λ e. absurd cc), λ k. absurd (k y ((h y).0 refl)))
