-- Fields and numbers of a line.
use Rattle.std.proofs.Common.{◌≡◌, ℕ, suc, ◌+◌, ◌-◌, ◌<◌, ◌≤◌, Bool, true, false, cond, not, List, [], ◌∷◌, length, take, drop, Some, None, Option, ◌==◌, nat_lt, sym, refl, ap, ◌∙◌, arith, length-drop, take_all, ltb-true, ltb-false}
use Rattle.std.specs.List.{prefix_len, position}
use Rattle.std.specs.Option.{option_map}
use Rattle.commands.specs.Reading.{longer, field_of}

-- the place of the first space, or the length
abbrev stop : List ℕ → ℕ
stop bs = prefix_len (λ b. not (b == 32)) bs

field_at_stop : (bs : List ℕ) → stop bs < length bs → field_of bs ≡ Some (take (stop bs) bs, drop (stop bs + 1) bs)
field_at_stop [] l = absurd (omega arith)
field_at_stop (b ∷ bs) l = go (b == 32) refl (field_at_stop bs)
  where
    go : (t : Bool) → (b == 32) ≡ t → (stop bs < length bs → field_of bs ≡ Some (take (stop bs) bs, drop (stop bs + 1) bs)) → field_of (b ∷ bs) ≡ Some (take (stop (b ∷ bs)) (b ∷ bs), drop (stop (b ∷ bs) + 1) (b ∷ bs))
    go true e more = rw e
    go false e more =
        let here : stop (b ∷ bs) ≡ suc (stop bs) = rw e (omega arith) in
        let past : suc (stop bs) + 1 ≡ suc (stop bs + 1) = omega arith in
        let first : field_of (b ∷ bs) ≡ longer b (field_of bs) = rw e in
        first ∙ ap (longer b) (more (omega arith)) ∙ ap (λ k. Some (b ∷ take (stop bs) bs, drop k (b ∷ bs))) (sym past) ∙ ap (λ k. Some (take k (b ∷ bs), drop (k + 1) (b ∷ bs))) (sym here)

field_unstopped : (bs : List ℕ) → length bs ≤ stop bs → field_of bs ≡ None
field_unstopped [] l = refl
field_unstopped (b ∷ bs) l = go (b == 32) refl (field_unstopped bs)
  where
    go : (t : Bool) → (b == 32) ≡ t → (length bs ≤ stop bs → field_of bs ≡ None) → field_of (b ∷ bs) ≡ None
    go true e more = let here : stop (b ∷ bs) ≡ 0 = rw e in absurd (omega arith)
    go false e more =
        let here : stop (b ∷ bs) ≡ suc (stop bs) = rw e (omega arith) in
        let first : field_of (b ∷ bs) ≡ longer b (field_of bs) = rw e in
        first ∙ ap (longer b) (more (omega arith))

-- a field ends before the first space
pub field_by_space : (bs : List ℕ) (o : Option ℕ) → o ≡ position (λ b. b == 32) bs → field_of bs ≡ option_map (λ i. (take i bs, drop (i + 1) bs)) o
field_by_space bs o e = go (nat_lt (stop bs) (length bs)) refl e
  where
    go : (t : Bool) → nat_lt (stop bs) (length bs) ≡ t → o ≡ cond t (Some (stop bs)) None → field_of bs ≡ option_map (λ i. (take i bs, drop (i + 1) bs)) o
    go true h k = rw k (field_at_stop bs (ltb-true _ _ h))
    go false h k = rw k (field_unstopped bs (ltb-false _ _ h))

-- the two parts of a list around place i
pub cut : (bs : List ℕ) (i : ℕ) → ◌≡◌ {A = Option (List ℕ × List ℕ)} (Some (take i bs, take (length bs - (i + 1)) (drop (i + 1) bs))) (Some (take i bs, drop (i + 1) bs))
cut bs i = ap (λ s. Some (take i bs, s)) (take_all _ _ (omega (arith, length-drop (i + 1) bs)))
