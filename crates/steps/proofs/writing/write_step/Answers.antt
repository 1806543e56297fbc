use Rattle.std.proofs.Common.{◌≡◌, ◌+◌, ◌++◌, length, drop, set, decimal, ap, ◌∙◌, arith}
use Rattle.steps.specs.Paths.{laid}
use Rattle.steps.proofs.Laying.{laid_after, laid_parts}
use Rattle.steps.proofs.writing.write_step.Goals as goal

pub returns-clause-after : goal.returns-clause-after
returns-clause-after c =
    let at = c.args.at in
    let number : decimal c.from.result ≡ decimal c.args.step.number = ap decimal c.from.ensures in
    let end : at + 1 + c.digits.result ≡ at + 1 + length (decimal c.from.result) = omega (arith, ap length number) in
    let digits = decimal c.from.result in
    let here : c.write_digits.result ≡ at + 1 = omega arith in
    let old = set c.args.out.now at c.to_letter.result in
    laid_parts (at + 1) _ digits old _ here c.write_digits.ensures.before (c.write_digits.ensures.written ∙ ap (λ n. digits ++ drop n old) end) ∙ (λ i. laid (at + 1) (number i) (set c.args.out.now at (c.to_letter.ensures i)))
    ∙ laid_after at _ (decimal c.args.step.number) c.args.out.now (omega arith)
