use Rattle.std.proofs.Common.{◌∙◌, arith}
use Rattle.steps.specs.Paths.{step_text}
use Rattle.steps.proofs.Laying.{laid_after}
use Rattle.steps.proofs.writing.write_slashed.Goals as goal

pub returns-clause-after : goal.returns-clause-after
returns-clause-after c = c.write_step.ensures.after ∙ laid_after c.args.at 47 (step_text c.args.step) c.args.out.now (omega arith)
