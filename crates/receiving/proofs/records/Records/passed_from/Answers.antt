use Rattle.std.proofs.Common.{subst}
use Rattle.ledger.proofs.Reading.{none_some}
use Rattle.receiving.specs.Walks.{Rest}
use Rattle.receiving.proofs.records.Records.passed_from.Goals as goal

pub returns-in_err-passed : goal.returns-in_err-passed
returns-in_err-passed g c = λ k. (
  λ e. absurd (none_some c.from_residual.ensures e),
  λ v. absurd (c.in_err-passed.ensures.leads k (rw c.from.ensures (subst (λ ps. Rest c.args.self.now k ps c.loop-place.passed) c.in-Some.ensures.frames ((c.loop-place.invariant.1 k).0 v)))),
)
