use Rattle.std.proofs.Common.{◌≡◌, ℕ, ◌+◌, ◌-◌, ◌≤◌, min, List, ◌++◌, length, take, sym, ap, ◌∙◌, arith}
use Rattle.std.proofs.Math.Seq.{take-append-add}
use Rattle.std.proofs.lemmas.List.{length-take-le}
use Rattle.std.proofs.lemmas.Slice.{take-put_mid, drop-put_mid}
use Rattle.std.proofs.lemmas.Grind.{common_steps}
use Rattle.desk.proofs.lines.hold.Goals as goal

-- held bytes and more, cut where the room ends
held_more : (old more part : List ℕ) (held n : ℕ) → held ≤ length old → n ≡ min (length more) (length old - held) → part ≡ take n more → take held old ++ part ≡ take (length old) (take held old ++ more)
held_more old more part held n low is e =
    let long = length-take-le held old low in
    let whole : length old ≡ length (take held old) + (length old - held) = omega arith in
    let same : take n more ≡ take (length old - held) more = grind (arith, common_steps) in
    ap (λ s. take held old ++ s) (e ∙ same)
    ∙ sym (ap (λ k. take k (take held old ++ more)) whole ∙ take-append-add (take held old) more (length old - held))

pub returns : goal.returns
returns c = grind (arith, common_steps, take-put_mid, drop-put_mid, held_more)
