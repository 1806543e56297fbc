use Rattle.ledger.proofs.Drawn.{codes_proper, has_member, member_has}
use Rattle.ledger.proofs.diagrams.read_off.Goals as goal

pub returns : goal.returns
returns g c vs sound n good =
    let before = g.S.Symbol.before in
    let order = g.met.S.Symbol.ordered in
    (codes_proper before order vs sound n good, λ x. (has_member before order vs sound, member_has before order vs sound n good x))
