use Rattle.std.proofs.Common.{◌+◌, [], ◌∷◌, ◌++◌, refl, ap, ◌∙◌}
use Rattle.std.proofs.lemmas.List.{length_push}
use Rattle.std.proofs.lemmas.Result.{err_from_is_err_and}
use Rattle.texts.proofs.Filling.{filled_more, begun_err}
use Rattle.letters.specs.Codes.{spelled}
use Rattle.letters.proofs.Spelling.{spelled_more, spelled_stops}
use Rattle.letters.proofs.read_letters.Goals as goal

pub returns-in_err-letter : goal.returns-in_err-letter
returns-in_err-letter c =
    let p = err_from_is_err_and c.from_residual.result c.from_residual.ensures.1 in
    let stops = spelled_stops c.args.from.now c.loop-i.invariant.0 c.loop-i.i _ c.loop-i-test.true c.loop-i.invariant.1 c.in_err-letter.ensures in
    rw (p.1, p.2) (begun_err (spelled c.args.from.now) _ c.args.out.now c.loop-i.out _ stops refl)

pub loop-i-preserved : goal.loop-i-preserved
loop-i-preserved c =
    let code = c.loop-i.invariant.0 in
    let x = c.in_ok-letter.letter in
    let more = filled_more code x c.args.out.now in
    let long = c.loop-i.invariant.2 in
    let was = c.loop-i.invariant.3 in (
      code ++ x ∷ [],
      spelled_more c.args.from.now code c.loop-i.i x c.loop-i-test.true c.loop-i.invariant.1 c.in_ok-letter.ensures,
      length_push code x ∙ ap (λ n. n + 1) long,
      c.put.ensures ∙ (cc),
    )
