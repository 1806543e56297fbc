use Rattle.std.proofs.Common.{◌≡◌, ◌++◌, length, drop, set, sym, refl, ap, ◌∙◌, arith}
use Rattle.std.proofs.lemmas.List.{length_push}
use Rattle.std.proofs.lemmas.Bool.{eqb-true, eqb-false}
use Rattle.commands.specs.Answers.{ended}
use Rattle.commands.specs.Hexadecimals.{hexadecimal}
use Rattle.commands.proofs.Hexes.{length_hex}
use Rattle.commands.proofs.Spelling.{starts, line_fed}
use Rattle.commands.proofs.answer.write_bytes.Goals as goal
use Rattle.commands.proofs.answer.write_bytes.Goals.{then-is_empty-via-then-is_empty, then-is_empty-via-else-is_empty+then-out-bytes}

pub returns-then-is_empty : goal.returns-then-is_empty
returns-then-is_empty c =
    let long = length_hex c.args.bytes.now in
    let more = length_push (hexadecimal c.args.bytes.now) 10 in
    elim c.then-is_empty.branch [ then-is_empty-via-then-is_empty w ↦ (omega (arith, eqb-true _ _ (sym w.if-is_empty.ensures)), refl) | then-is_empty-via-else-is_empty+then-out-bytes w ↦ (omega arith, refl) ]

pub bounds-out-n : goal.bounds-out-n
bounds-out-n c =
    let long = length_hex c.args.bytes.now in
    let put = c.in_ok-n.ensures.answer in
    let some = eqb-false (length c.args.out.now) 0 (sym c.if-is_empty.ensures) in
    omega arith

pub returns : goal.returns
returns c =
    let text = hexadecimal c.args.bytes.now in
    let old = c.args.out.now in
    let more = length_push text 10 in
    let put = c.in_ok-n.ensures.answer in
    let n = c.in_ok-n.n in
    let some = eqb-false (length old) 0 (sym c.if-is_empty.ensures) in
    let long = length_hex c.args.bytes.now in
    let at : set (text ++ drop (length text) old) n 10 ≡ set (text ++ drop n old) n 10 = ap (λ k. set (text ++ drop k old) n 10) (sym put.1) in
    starts (ended text) old _ _ (omega arith) (omega arith) (ap (λ s. set s n 10) put.2 ∙ at ∙ line_fed text old n put.1 (omega arith))
