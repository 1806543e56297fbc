-- A number read from its digits, and written in decimal.
use Rattle.std.proofs.Common.{◌≡◌, ℕ, zero, suc, ◌+◌, ◌-◌, ◌*◌, ◌/◌, ◌%◌, ◌^◌, ◌<◌, Bool, true, false, cond, ◌&&◌, eqb, ltb, leb, List, [], ◌∷◌, ◌++◌, length, get_or, IfSome, Some, None, decimal, Option, refl, ap, ◌∙◌, arith, rules}
use Rattle.std.proofs.lemmas.Fmt.{decimal_by_steps, decimal-digits_value, digits_decimal, decimal_digit, decimal_nonempty, first_decimal}
use Rattle.std.proofs.lemmas.Str.Parse.{IsNumeralModel, numerals_by_fold}
use Rattle.std.proofs.lemmas.Bool.{ltb-true, ltb-false, lt-ltb, le-ltb, leb-true, le-leb, ne_eqb, not-true, eqb-false, and_parts}
use Rattle.std.specs.Option.{option_map, option_and_then}
use Rattle.std.specs.Int.{IsInRange}
use Rattle.std.specs.List.{AllByRecursion}
use Rattle.texts.specs.Decimals.{pushed}
use Rattle.commands.specs.Reading.{number_after, plain, number_of, narrow, narrow_of}

-- what was found has the property
abbrev pub Holds : {A : Type 0} → (A → Type 0) → Option A → Type 0
Holds P o = IfSome o P

module _ {A B : Type 0} (P : A → Type 0) (Q : B → Type 0) where
  pub holds_onto : (f : A → Option B) (o : Option A) → Holds P o → ((x : A) → P x → Holds Q (f x)) → Holds Q (option_and_then f o)
  holds_onto f None h k = tt
  holds_onto f (Some x) h k = k x h

  pub holds_mapped : (f : A → B) (o : Option A) → Holds P o → ((x : A) → P x → Q (f x)) → Holds Q (option_map f o)
  holds_mapped f None h k = tt
  holds_mapped f (Some x) h k = k x h

pub holds_weaker : {A : Type 0} (P Q : A → Type 0) (o : Option A) → Holds P o → ((x : A) → P x → Q x) → Holds Q o
holds_weaker P Q None h k = tt
holds_weaker P Q (Some x) h k = k x h

pub holds_cond : {A : Type 0} (P : A → Type 0) (t : Bool) (x : A) (o : Option A) → (t ≡ true → P x) → Holds P o → Holds P (cond t (Some x) o)
holds_cond P true x o h k = h refl
holds_cond P false x o h k = k

-- digits, and the number that they write
abbrev pub Figures : List ℕ → Type 0
Figures ds = AllByRecursion (IsInRange 48 57) ds

abbrev read_on : ℕ → List ℕ → ℕ
read_on n [] = n
read_on n (c ∷ cs) = read_on (n * 10 + (c - 48)) cs

own : IsNumeralModel Figures (read_on 0)
own = numerals_by_fold Figures (search rules) read_on (search rules)

pub decimal_figures : (n : ℕ) → n < 2 ^ 64 → Figures (decimal n)
decimal_figures n h = digits_decimal own n h

-- what is read is the number whose decimal stands there
abbrev Grown : ℕ → ℕ → ℕ → Type 0
Grown n b m = (m < 2 ^ 64) × IsInRange 48 57 b × (m ≡ n * 10 + (b - 48))

grown_sound : (n b : ℕ) → Holds (Grown n b) (pushed n b)
grown_sound n b =
    holds_cond (Grown n b) (leb 48 b && leb b 57 && ltb (n * 10 + (b - 48)) 18446744073709551616) (n * 10 + (b - 48)) None
    (λ e.
    let p = and_parts (leb 48 b && leb b 57) (ltb (n * 10 + (b - 48)) 18446744073709551616) e in
    let q = and_parts (leb 48 b) (leb b 57) p.0 in
    (ltb-true _ _ p.1, (leb-true _ _ q.0, leb-true _ _ q.1), refl))
    tt

abbrev After : ℕ → List ℕ → ℕ → Type 0
After n ds m = (m < 2 ^ 64) × Figures ds × (m ≡ read_on n ds)

after_sound : (n : ℕ) (ds : List ℕ) → n < 2 ^ 64 → Holds (After n ds) (number_after n ds)
after_sound n [] h = (h, tt, refl)
after_sound n (b ∷ bs) h =
    holds_onto (Grown n b) (After n (b ∷ bs)) (λ m. number_after m bs) (pushed n b) (grown_sound n b)
    (λ m g.
    holds_weaker (After m bs) (After n (b ∷ bs)) (number_after m bs) (after_sound m bs g.0)
    (λ k a. (a.0, (g.1, a.1), a.2 ∙ ap (λ x. read_on x bs) g.2)))

-- plain digits have no leading zero
plain_first : (ds : List ℕ) → plain ds ≡ true → (0 < length ds) × (get_or ds 0 0 ≡ 48 → length ds ≡ 1)
plain_first [] h = absurd cc
plain_first (b ∷ []) h = (omega arith, λ _. refl)
plain_first (b ∷ c ∷ bs) h = (omega arith, λ e. absurd (eqb-false b 48 (not-true _ h) e))

abbrev pub Number : ℕ → List ℕ → ℕ → Type 0
Number bits ds n = (n < 2 ^ bits) × (decimal n ≡ ds)

numbered : (ds : List ℕ) (n : ℕ) → plain ds ≡ true → After 0 ds n → Number 64 ds n
numbered ds n h a =
    let p = plain_first ds h in
    let below : read_on 0 ds < 2 ^ 64 = rw a.2 at a.0 in
    (a.0, ap decimal a.2 ∙ decimal-digits_value own ds a.1 p.0 p.1 below)

number_by : (ds : List ℕ) (t : Bool) → plain ds ≡ t → Holds (Number 64 ds) (cond t (number_after 0 ds) None)
number_by ds true h = holds_weaker (After 0 ds) (Number 64 ds) (number_after 0 ds) (after_sound 0 ds (omega arith)) (λ n a. numbered ds n h a)
number_by ds false h = tt

pub number_sound : (ds : List ℕ) → Holds (Number 64 ds) (number_of ds)
number_sound ds = number_by ds (plain ds) refl

narrow_by : (ds : List ℕ) (n : ℕ) (t : Bool) → ltb 4294967295 n ≡ t → Number 64 ds n → Holds (Number 32 ds) (cond t None (Some n))
narrow_by ds n true e h = tt
narrow_by ds n false e h = (let le = ltb-false _ _ e in omega arith, h.1)

pub narrow_sound : (ds : List ℕ) → Holds (Number 32 ds) (narrow_of ds)
narrow_sound ds = holds_onto (Number 64 ds) (Number 32 ds) narrow (number_of ds) (number_sound ds) (λ n h. narrow_by ds n (ltb 4294967295 n) refl h)

-- the decimal of a number is read as that number
grown_digit : (n d : ℕ) → d < 10 → n * 10 + d < 2 ^ 64 → pushed n (48 + d) ≡ Some (n * 10 + d)
grown_digit n d h k =
    let same : 48 + d - 48 ≡ d = omega arith in
    let low : leb 48 (48 + d) ≡ true = le-leb _ _ (omega arith) in
    let high : leb (48 + d) 57 ≡ true = le-leb _ _ (omega arith) in
    let fits : ltb (n * 10 + d) 18446744073709551616 ≡ true = lt-ltb _ _ (omega arith) in
    rw (same, low, high, fits)

after_push : (n : ℕ) (ds : List ℕ) (b : ℕ) → number_after n (ds ++ (b ∷ [])) ≡ option_and_then (λ m. pushed m b) (number_after n ds)
after_push n [] b = single (pushed n b)
  where
    single : (o : Option ℕ) → option_and_then (λ m. Some m) o ≡ o
    single None = refl
    single (Some x) = refl
after_push n (d ∷ ds) b = through (pushed n d) (λ m. after_push m ds b)
  where
    through : (o : Option ℕ) → ((m : ℕ) → number_after m (ds ++ (b ∷ [])) ≡ option_and_then (λ k. pushed k b) (number_after m ds)) → option_and_then (λ m. number_after m (ds ++ (b ∷ []))) o ≡ option_and_then (λ k. pushed k b) (option_and_then (λ m. number_after m ds) o)
    through None h = refl
    through (Some x) h = h x

after_decimal : (n : ℕ) → n < 2 ^ 64 → number_after 0 (decimal n) ≡ Some n
after_decimal n h =
    decimal_by_steps (λ m ds. m < 2 ^ 64 → number_after 0 ds ≡ Some m)
    (λ m small _. after_push 0 [] (48 + m) ∙ grown_digit 0 m small (omega arith) ∙ ap (λ k. Some k) (omega arith))
    (λ m ds big before fits.
    after_push 0 ds (48 + m % 10) ∙ ap (option_and_then (λ k. pushed k (48 + m % 10))) (before (omega arith))
    ∙ grown_digit (m / 10) (m % 10) (omega arith) (omega arith)
    ∙ ap (λ k. Some k) (omega arith))
    n h h

plain_from : (ds : List ℕ) → 0 < length ds → (get_or ds 0 0 ≡ 48 → length ds ≡ 1) → plain ds ≡ true
plain_from [] h k = absurd (omega arith)
plain_from (b ∷ []) h k = refl
plain_from (b ∷ c ∷ bs) h k = let apart : eqb b 48 ≡ false = ne_eqb b 48 (λ e. omega (arith, k e)) in rw apart

zero_first : (n : ℕ) → n < 2 ^ 64 → get_or (decimal n) 0 0 ≡ 48 → length (decimal n) ≡ 1
zero_first zero h e = ap length (decimal_digit 0 (omega arith))
zero_first (suc n) h e = absurd (omega (arith, first_decimal (suc n) (omega arith) h))

pub number_decimal : (n : ℕ) → n < 2 ^ 64 → number_of (decimal n) ≡ Some n
number_decimal n h =
    let first : plain (decimal n) ≡ true = plain_from (decimal n) (decimal_nonempty n h) (zero_first n h) in
    rw first (after_decimal n h)

pub narrow_decimal : (n : ℕ) → n < 2 ^ 32 → narrow_of (decimal n) ≡ Some n
narrow_decimal n h =
    let fits : ltb 4294967295 n ≡ false = le-ltb _ _ (omega arith) in
    rw (number_decimal n (omega arith), fits)
