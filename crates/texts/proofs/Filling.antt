-- An output filled symbol by symbol, and a code read twice: once to see that it can be read, and once to keep it.
use Rattle.std.proofs.Common.{◌≡◌, ℕ, zero, suc, ◌≤◌, List, [], ◌∷◌, ◌++◌, length, take, drop, set, Ok, Err, Result, sym, refl, ap, ◌∙◌}
use Rattle.std.proofs.lemmas.List.{take_all, take_at}
use Rattle.texts.specs.Texts.{filled, ReadTo, Begun}
use Rattle.texts.specs.declared.TextFault.{TextFault}

module _ {S : Type 0} where
  none_of : (n : ℕ) → take {A = S} n [] ≡ []
  none_of zero = refl
  none_of (suc n) = refl

  pub filled_none : (out : List S) → filled [] out ≡ out
  filled_none out = ap (λ s. s ++ out) (none_of (length out))

  -- one symbol more, past the end too
  pub filled_more : (code : List S) (x : S) (out : List S) → set (filled code out) (length code) x ≡ filled (code ++ x ∷ []) out
  filled_more [] x [] = refl
  filled_more [] x (y ∷ out) = ap (λ s. set (s ++ y ∷ out) 0 x) (none_of (length (y ∷ out))) ∙ ap (λ s. x ∷ (s ++ out)) (sym (none_of (length out)))
  filled_more (d ∷ code) x [] = refl
  filled_more (d ∷ code) x (y ∷ out) = ap (λ s. d ∷ s) (filled_more code x out)

  -- what is known of the spelling once a reading has ended
  pub begun_ok : (s : Result (List S) TextFault) (code old new : List S) (r : Result ℕ TextFault) → s ≡ Ok code → r ≡ Ok (length code) → new ≡ filled code old → Begun s old r new
  begun_ok s code old new r e p q = rw e (p, q)

  pub begun_err : (s : Result (List S) TextFault) (fault : TextFault) (old new : List S) (r : Result ℕ TextFault) → s ≡ Err fault → r ≡ Err fault → Begun s old r new
  begun_err s fault old new r e p = rw e p

  -- what a caller learns of a reading
  pub read_ok : (s : Result (List S) TextFault) (old new : List S) (n : ℕ) → ReadTo s old (Ok n) new → (code : List S) × (s ≡ Ok code) × (n ≡ length code) × (new ≡ filled code old)
  read_ok (Ok code) old new n h = let e = h.0 in (code, refl, cc, h.1)
  read_ok (Err fault) old new n h = absurd cc

  pub read_err : (s : Result (List S) TextFault) (fault : TextFault) (old new : List S) → ReadTo s old (Err fault) new → (s ≡ Err fault) × (new ≡ old)
  read_err (Ok code) fault old new h = absurd cc
  read_err (Err fault₁) fault old new h = let e = h.0 in (cc, h.1)

  -- a code that fits stands whole at the start
  pub filled_whole : (code out : List S) → length code ≤ length out → take (length code) (filled code out) ≡ code
  filled_whole code out h =
      let all = take_all (length out) code h in
      ap (λ s. take (length code) (s ++ drop (length code) out)) all ∙ take_at code (drop (length code) out) (length code) refl
