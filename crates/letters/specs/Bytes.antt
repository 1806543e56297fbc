-- A letter and its byte, back and forth.
use Rattle.std.specs.Prelude.{◌≡◌, ℕ, zero, suc, ◌+◌, ◌-◌, ◌<◌, ◌≤◌, Bool, true, false, cond, ◌&&◌, List, [], ◌∷◌, length, get_or, Ok, Err, Result, ◌==◌, nat_le, slice_index, slice_index_or, refl}
use Rattle.std.proofs.Common.{sym, ap, ◌∙◌, arith}
use borrow.Author.Tests.{leb-true, eqb-true, clash}
use Rattle.symbols.specs.Wire.{Bytes, WireLaws}
use Rattle.symbols.specs.declared.SymbolFault.{SymbolFault}
use Rattle.letters.specs.Letters.{byte_of, letters, letter_of, letter_travel}
use Rattle.letters.specs.declared.Letter.{Letter}
use Rattle.letters.specs.declared.Letter.TheVariants.{Space, Exclamation, Quote, Hash, Dollar, Percent, Ampersand, Apostrophe, LeftParen, RightParen, Asterisk, Plus, Comma, Minus, Dot, Slash, Digit0, Digit1, Digit2, Digit3, Digit4, Digit5, Digit6, Digit7, Digit8, Digit9, Colon, Semicolon, Less, Equal, Greater, Question, At, CapitalA, CapitalB, CapitalC, CapitalD, CapitalE, CapitalF, CapitalG, CapitalH, CapitalI, CapitalJ, CapitalK, CapitalL, CapitalM, CapitalN, CapitalO, CapitalP, CapitalQ, CapitalR, CapitalS, CapitalT, CapitalU, CapitalV, CapitalW, CapitalX, CapitalY, CapitalZ, LeftBracket, Backslash, RightBracket, Caret, Underscore, Backtick, SmallA, SmallB, SmallC, SmallD, SmallE, SmallF, SmallG, SmallH, SmallI, SmallJ, SmallK, SmallL, SmallM, SmallN, SmallO, SmallP, SmallQ, SmallR, SmallS, SmallT, SmallU, SmallV, SmallW, SmallX, SmallY, SmallZ, LeftBrace, Bar, RightBrace, Tilde}

-- the byte of a letter reads back as that letter
pub byte_back : (x : Letter) → letter_of (byte_of x) ≡ Ok x
byte_back Space = refl
byte_back Exclamation = refl
byte_back Quote = refl
byte_back Hash = refl
byte_back Dollar = refl
byte_back Percent = refl
byte_back Ampersand = refl
byte_back Apostrophe = refl
byte_back LeftParen = refl
byte_back RightParen = refl
byte_back Asterisk = refl
byte_back Plus = refl
byte_back Comma = refl
byte_back Minus = refl
byte_back Dot = refl
byte_back Slash = refl
byte_back Digit0 = refl
byte_back Digit1 = refl
byte_back Digit2 = refl
byte_back Digit3 = refl
byte_back Digit4 = refl
byte_back Digit5 = refl
byte_back Digit6 = refl
byte_back Digit7 = refl
byte_back Digit8 = refl
byte_back Digit9 = refl
byte_back Colon = refl
byte_back Semicolon = refl
byte_back Less = refl
byte_back Equal = refl
byte_back Greater = refl
byte_back Question = refl
byte_back At = refl
byte_back CapitalA = refl
byte_back CapitalB = refl
byte_back CapitalC = refl
byte_back CapitalD = refl
byte_back CapitalE = refl
byte_back CapitalF = refl
byte_back CapitalG = refl
byte_back CapitalH = refl
byte_back CapitalI = refl
byte_back CapitalJ = refl
byte_back CapitalK = refl
byte_back CapitalL = refl
byte_back CapitalM = refl
byte_back CapitalN = refl
byte_back CapitalO = refl
byte_back CapitalP = refl
byte_back CapitalQ = refl
byte_back CapitalR = refl
byte_back CapitalS = refl
byte_back CapitalT = refl
byte_back CapitalU = refl
byte_back CapitalV = refl
byte_back CapitalW = refl
byte_back CapitalX = refl
byte_back CapitalY = refl
byte_back CapitalZ = refl
byte_back LeftBracket = refl
byte_back Backslash = refl
byte_back RightBracket = refl
byte_back Caret = refl
byte_back Underscore = refl
byte_back Backtick = refl
byte_back SmallA = refl
byte_back SmallB = refl
byte_back SmallC = refl
byte_back SmallD = refl
byte_back SmallE = refl
byte_back SmallF = refl
byte_back SmallG = refl
byte_back SmallH = refl
byte_back SmallI = refl
byte_back SmallJ = refl
byte_back SmallK = refl
byte_back SmallL = refl
byte_back SmallM = refl
byte_back SmallN = refl
byte_back SmallO = refl
byte_back SmallP = refl
byte_back SmallQ = refl
byte_back SmallR = refl
byte_back SmallS = refl
byte_back SmallT = refl
byte_back SmallU = refl
byte_back SmallV = refl
byte_back SmallW = refl
byte_back SmallX = refl
byte_back SmallY = refl
byte_back SmallZ = refl
byte_back LeftBrace = refl
byte_back Bar = refl
byte_back RightBrace = refl
byte_back Tilde = refl

pub one_byte : (x y : Letter) → byte_of x ≡ byte_of y → x ≡ y
one_byte x y e =
    let p = ap letter_of e in
    let q = byte_back x in
    let r = byte_back y in
    cc

first : (a b : Bool) → (a && b) ≡ true → a ≡ true
first true b e = refl
first false b e = e

second : (a b : Bool) → (a && b) ≡ true → b ≡ true
second true b e = e
second false b e = absurd (clash e)

-- the bytes of the letters of a list count up from n
abbrev counts : ℕ → List Letter → Bool
counts n [] = true
counts n (x ∷ xs) = byte_of x == n && counts (suc n) xs

counted : (n : ℕ) (xs : List Letter) (k : ℕ) → counts n xs ≡ true → k < length xs → byte_of (slice_index_or xs k Space) ≡ n + k
counted n [] k t h = absurd (omega arith)
counted n (x ∷ xs) zero t h = eqb-true _ _ (first _ _ t) ∙ omega arith
counted n (x ∷ xs) (suc k) t h = counted (suc n) xs k (second _ _ t) (omega arith) ∙ omega arith

-- a byte that reads as a letter is that letter's own
pub byte_own : (b : ℕ) (x : Letter) → letter_of b ≡ Ok x → byte_of x ≡ b
byte_own b x e = go (nat_le 32 b && nat_le b 126) refl e
  where
    go : (t : Bool) → (nat_le 32 b && nat_le b 126) ≡ t → ◌≡◌ {A = Result Letter SymbolFault} (cond t (Ok (slice_index_or letters (b - 32) Space)) (Err (record { byte = b }))) (Ok x) → byte_of x ≡ b
    go true h f =
        let lo : 32 ≤ b = leb-true 32 b (first (nat_le 32 b) (nat_le b 126) h) in
        let hi : b ≤ 126 = leb-true b 126 (second (nat_le 32 b) (nat_le b 126) h) in
        let same : get_or letters (b - 32) Space ≡ x = cc in
        let at : byte_of (slice_index_or letters (b - 32) Space) ≡ 32 + (b - 32) = counted 32 letters (b - 32) refl (omega arith) in
        ap byte_of (sym same) ∙ at ∙ omega arith
    go false h f = absurd cc

-- the one byte of a letter that travels
pub wire_own : (bs : List ℕ) (x : Letter) → length bs ≡ 1 → Bytes bs → letter_of (slice_index bs 0) ≡ Ok x → (byte_of x ∷ []) ≡ bs
wire_own [] x l k e = absurd (omega arith)
wire_own (b ∷ []) x l k e = ap (λ v. v ∷ []) (byte_own b x e)
wire_own (b ∷ c ∷ bs) x l k e = absurd (omega arith)

-- the law of the bytes of letters
pub letter_laws : WireLaws letter_travel
letter_laws = record {
  one_byte = omega arith;
  some = omega arith;
  few = omega arith;
  long = λ x. refl;
  back = byte_back;
  own = wire_own;
}
