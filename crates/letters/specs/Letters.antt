-- A letter and its byte.
use Rattle.std.specs.Prelude.{ℕ, ◌-◌, cond, ◌&&◌, List, [], ◌∷◌, Ok, Err, Result, nat_le, slice_index, slice_index_or}
use Rattle.symbols.specs.Wire.{Travel}
use Rattle.symbols.specs.declared.SymbolFault.{SymbolFault}
use Rattle.letters.specs.declared.Letter.{Letter}
use Rattle.letters.specs.declared.Letter.TheVariants.{Space, Exclamation, Quote, Hash, Dollar, Percent, Ampersand, Apostrophe, LeftParen, RightParen, Asterisk, Plus, Comma, Minus, Dot, Slash, Digit0, Digit1, Digit2, Digit3, Digit4, Digit5, Digit6, Digit7, Digit8, Digit9, Colon, Semicolon, Less, Equal, Greater, Question, At, CapitalA, CapitalB, CapitalC, CapitalD, CapitalE, CapitalF, CapitalG, CapitalH, CapitalI, CapitalJ, CapitalK, CapitalL, CapitalM, CapitalN, CapitalO, CapitalP, CapitalQ, CapitalR, CapitalS, CapitalT, CapitalU, CapitalV, CapitalW, CapitalX, CapitalY, CapitalZ, LeftBracket, Backslash, RightBracket, Caret, Underscore, Backtick, SmallA, SmallB, SmallC, SmallD, SmallE, SmallF, SmallG, SmallH, SmallI, SmallJ, SmallK, SmallL, SmallM, SmallN, SmallO, SmallP, SmallQ, SmallR, SmallS, SmallT, SmallU, SmallV, SmallW, SmallX, SmallY, SmallZ, LeftBrace, Bar, RightBrace, Tilde}

abbrev pub byte_of : Letter → ℕ
byte_of Space = 32
byte_of Exclamation = 33
byte_of Quote = 34
byte_of Hash = 35
byte_of Dollar = 36
byte_of Percent = 37
byte_of Ampersand = 38
byte_of Apostrophe = 39
byte_of LeftParen = 40
byte_of RightParen = 41
byte_of Asterisk = 42
byte_of Plus = 43
byte_of Comma = 44
byte_of Minus = 45
byte_of Dot = 46
byte_of Slash = 47
byte_of Digit0 = 48
byte_of Digit1 = 49
byte_of Digit2 = 50
byte_of Digit3 = 51
byte_of Digit4 = 52
byte_of Digit5 = 53
byte_of Digit6 = 54
byte_of Digit7 = 55
byte_of Digit8 = 56
byte_of Digit9 = 57
byte_of Colon = 58
byte_of Semicolon = 59
byte_of Less = 60
byte_of Equal = 61
byte_of Greater = 62
byte_of Question = 63
byte_of At = 64
byte_of CapitalA = 65
byte_of CapitalB = 66
byte_of CapitalC = 67
byte_of CapitalD = 68
byte_of CapitalE = 69
byte_of CapitalF = 70
byte_of CapitalG = 71
byte_of CapitalH = 72
byte_of CapitalI = 73
byte_of CapitalJ = 74
byte_of CapitalK = 75
byte_of CapitalL = 76
byte_of CapitalM = 77
byte_of CapitalN = 78
byte_of CapitalO = 79
byte_of CapitalP = 80
byte_of CapitalQ = 81
byte_of CapitalR = 82
byte_of CapitalS = 83
byte_of CapitalT = 84
byte_of CapitalU = 85
byte_of CapitalV = 86
byte_of CapitalW = 87
byte_of CapitalX = 88
byte_of CapitalY = 89
byte_of CapitalZ = 90
byte_of LeftBracket = 91
byte_of Backslash = 92
byte_of RightBracket = 93
byte_of Caret = 94
byte_of Underscore = 95
byte_of Backtick = 96
byte_of SmallA = 97
byte_of SmallB = 98
byte_of SmallC = 99
byte_of SmallD = 100
byte_of SmallE = 101
byte_of SmallF = 102
byte_of SmallG = 103
byte_of SmallH = 104
byte_of SmallI = 105
byte_of SmallJ = 106
byte_of SmallK = 107
byte_of SmallL = 108
byte_of SmallM = 109
byte_of SmallN = 110
byte_of SmallO = 111
byte_of SmallP = 112
byte_of SmallQ = 113
byte_of SmallR = 114
byte_of SmallS = 115
byte_of SmallT = 116
byte_of SmallU = 117
byte_of SmallV = 118
byte_of SmallW = 119
byte_of SmallX = 120
byte_of SmallY = 121
byte_of SmallZ = 122
byte_of LeftBrace = 123
byte_of Bar = 124
byte_of RightBrace = 125
byte_of Tilde = 126

-- the letters in order
abbrev pub letters : List Letter
letters = Space ∷ Exclamation ∷ Quote ∷ Hash ∷ Dollar ∷ Percent ∷ Ampersand ∷ Apostrophe ∷ LeftParen ∷ RightParen ∷ Asterisk ∷ Plus ∷ Comma ∷ Minus ∷ Dot ∷ Slash ∷ Digit0 ∷ Digit1 ∷ Digit2 ∷ Digit3 ∷ Digit4 ∷ Digit5 ∷ Digit6 ∷ Digit7 ∷ Digit8 ∷ Digit9 ∷ Colon ∷ Semicolon ∷ Less ∷ Equal ∷ Greater ∷ Question ∷ At ∷ CapitalA ∷ CapitalB ∷ CapitalC ∷ CapitalD ∷ CapitalE ∷ CapitalF ∷ CapitalG ∷ CapitalH ∷ CapitalI ∷ CapitalJ ∷ CapitalK ∷ CapitalL ∷ CapitalM ∷ CapitalN ∷ CapitalO ∷ CapitalP ∷ CapitalQ ∷ CapitalR ∷ CapitalS ∷ CapitalT ∷ CapitalU ∷ CapitalV ∷ CapitalW ∷ CapitalX ∷ CapitalY ∷ CapitalZ ∷ LeftBracket ∷ Backslash ∷ RightBracket ∷ Caret ∷ Underscore ∷ Backtick ∷ SmallA ∷ SmallB ∷ SmallC ∷ SmallD ∷ SmallE ∷ SmallF ∷ SmallG ∷ SmallH ∷ SmallI ∷ SmallJ ∷ SmallK ∷ SmallL ∷ SmallM ∷ SmallN ∷ SmallO ∷ SmallP ∷ SmallQ ∷ SmallR ∷ SmallS ∷ SmallT ∷ SmallU ∷ SmallV ∷ SmallW ∷ SmallX ∷ SmallY ∷ SmallZ ∷ LeftBrace ∷ Bar ∷ RightBrace ∷ Tilde ∷ []

-- the letter of a byte from 32 to 126, and the fault of any other
abbrev pub letter_of : ℕ → Result Letter SymbolFault
letter_of b = cond (nat_le 32 b && nat_le b 126) (Ok (slice_index_or letters (b - 32) Space)) (Err (record { byte = b }))

-- letters travel as kind 1, each as its byte
abbrev pub letter_travel : Travel Letter
letter_travel = record { kind = 1; width = 1; bytes = λ x. byte_of x ∷ []; reads = λ bs. letter_of (slice_index bs 0) }
