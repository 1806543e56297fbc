-- Bytes laid one after another into an output.
use Rattle.std.proofs.Common.{◌≡◌, ℕ, ◌+◌, ◌<◌, ◌≤◌, List, [], ◌∷◌, ◌++◌, length, get_or, take, drop, set, sym, refl, ap, ◌∙◌, append_assoc, arith, length-append}
use Rattle.std.proofs.lemmas.List.{take_at, drop_at, drop-drop, drop_more, set_at, take_more, take-append-drop, length-take-le, append-nil}
use Rattle.std.proofs.lemmas.Grind.{flat_map-append}
use Rattle.std.specs.List.{flat_map}
use Rattle.steps.specs.Paths.{laid}

-- an output with bytes at its start
abbrev pub fronted : List ℕ → List ℕ → List ℕ
fronted bs old = bs ++ drop (length bs) old

front_itself : (at : ℕ) (out : List ℕ) → at ≤ length out → fronted (take at out) out ≡ out
front_itself at out h = ap (λ n. take at out ++ drop n out) (length-take-le at out h) ∙ take-append-drop at out

pub set_next : (bs old : List ℕ) (at b : ℕ) → at ≡ length bs → at < length old → set (fronted bs old) at b ≡ fronted (bs ++ b ∷ []) old
set_next bs old at b e h =
    let more : drop (length bs) old ≡ get_or old (length bs) 0 ∷ drop (length bs + 1) old = drop_more old (length bs) 0 (omega arith) in
    ap (λ r. set (bs ++ r) at b) more ∙ set_at bs (get_or old (length bs) 0) (drop (length bs + 1) old) b at (sym e)
    ∙ sym (append_assoc bs (b ∷ []) (drop (length bs + 1) old)) ∙ ap (λ n. (bs ++ b ∷ []) ++ drop n old) (sym (length-append bs (b ∷ [])))

pub laid_next : (bs more old : List ℕ) (at : ℕ) → at ≡ length bs → laid at more (fronted bs old) ≡ fronted (bs ++ more) old
laid_next bs more old at e =
    let rest = drop (length bs) old in
    let past : drop (at + length more) (bs ++ rest) ≡ drop (length (bs ++ more)) old = sym (drop-drop (length more) at (bs ++ rest)) ∙ ap (drop (length more)) (drop_at bs rest at (sym e)) ∙ drop-drop (length more) (length bs) old ∙ ap (λ n. drop n old) (sym (length-append bs more)) in
    (λ i. take_at bs rest at (sym e) i ++ (more ++ past i)) ∙ sym (append_assoc bs more (drop (length (bs ++ more)) old))

pub laid_first : (bs out : List ℕ) → laid 0 bs out ≡ fronted bs out
laid_first bs out = laid_next [] bs out 0 refl

laid_front : (at : ℕ) (bs out : List ℕ) → at ≤ length out → laid at bs out ≡ fronted (take at out ++ bs) out
laid_front at bs out h = ap (laid at bs) (sym (front_itself at out h)) ∙ laid_next (take at out) bs out at (sym (length-take-le at out h))

-- one byte, and then others
pub laid_after : (at b : ℕ) (bs out : List ℕ) → at < length out → laid (at + 1) bs (set out at b) ≡ laid at (b ∷ bs) out
laid_after at b bs out h =
    let front = take at out in
    let long : at ≡ length front = sym (length-take-le at out (omega arith)) in
    let next : at + 1 ≡ length (front ++ b ∷ []) = ap (λ n. n + 1) long ∙ sym (length-append front (b ∷ [])) in
    ap (λ s. laid (at + 1) bs (set s at b)) (sym (front_itself at out (omega arith))) ∙ ap (laid (at + 1) bs) (set_next front out at b long h) ∙ laid_next (front ++ b ∷ []) bs out (at + 1) next
    ∙ ap (λ s. fronted s out) (append_assoc front (b ∷ []) bs) ∙ sym (laid_front at (b ∷ bs) out (omega arith))

-- bytes, and then others
pub laid_on : (at end : ℕ) (bs more out : List ℕ) → at ≤ length out → end ≡ at + length bs → laid end more (laid at bs out) ≡ laid at (bs ++ more) out
laid_on at end bs more out h e =
    let front = take at out in
    let long : end ≡ length (front ++ bs) = e ∙ ap (λ n. n + length bs) (sym (length-take-le at out h)) ∙ sym (length-append front bs) in
    ap (laid end more) (laid_front at bs out h) ∙ laid_next (front ++ bs) more out end long ∙ ap (λ s. fronted s out) (append_assoc front bs more) ∙ sym (laid_front at (bs ++ more) out h)

-- bytes between two parts that stay
pub laid_parts : (at r : ℕ) (bs old new : List ℕ) → r ≡ at → take r new ≡ take r old → drop r new ≡ bs ++ drop (at + length bs) old → new ≡ laid at bs old
laid_parts at r bs old new e front back = sym (take-append-drop r new) ∙ (λ i. front i ++ back i) ∙ ap (λ k. take k old ++ (bs ++ drop (at + length bs) old)) e

-- one piece more
pub joined_next : {X : Type 0} (f : X → List ℕ) (xs : List X) (i : ℕ) (d : X) → i < length xs → flat_map f (take (i + 1) xs) ≡ flat_map f (take i xs) ++ f (get_or xs i d)
joined_next f xs i d h =
    ap (flat_map f) (take_more xs i d h) ∙ flat_map-append f (take i xs) (get_or xs i d ∷ []) ∙ ap (λ s. flat_map f (take i xs) ++ s) (append-nil (f (get_or xs i d)))
