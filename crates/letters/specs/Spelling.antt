-- A text that spells a code is that code's own.
use Rattle.std.specs.Prelude.{◌≡◌, ℕ, List, [], ◌∷◌, Ok, Err, Result, refl}
use Rattle.std.proofs.Common.{sym, ap, ◌∙◌}
use Rattle.symbols.specs.declared.SymbolFault.{SymbolFault}
use Rattle.texts.specs.Texts.{OwnText}
use Rattle.texts.specs.declared.TextFault.{TextFault}
use Rattle.letters.specs.Letters.{letter_of}
use Rattle.letters.specs.Codes.{text_of, behind, spelled}
use Rattle.letters.specs.declared.Letter.{Letter}
use Rattle.letters.specs.Bytes.{byte_own}

own_behind : (b : ℕ) (bs : List ℕ) (x : Result Letter SymbolFault) (r : Result (List Letter) TextFault) (code : List Letter) → letter_of b ≡ x → ((rest : List Letter) → r ≡ Ok rest → text_of rest ≡ bs) → behind x r ≡ Ok code → text_of code ≡ b ∷ bs
own_behind b bs (Err fault) r code p h e = absurd cc
own_behind b bs (Ok x) (Err fault) code p h e = absurd cc
own_behind b bs (Ok x) (Ok rest) code p h e =
    let same : x ∷ rest ≡ code = cc in
    ap text_of (sym same) ∙ (λ i. byte_own b x p i ∷ h rest refl i)

pub own_text : OwnText spelled text_of
own_text [] code e = let same : [] ≡ code = cc in ap text_of (sym same)
own_text (b ∷ bs) code e = own_behind b bs (letter_of b) (spelled bs) code refl (own_text bs) e
