use Rattle.ledger.proofs.Canon.{same_number, number_same}
use Rattle.ledger.proofs.diagrams.canonical.Goals as goal

pub returns : goal.returns
returns g c vs sound m n gm gn =
    let before = g.S.Symbol.before in
    let order = g.met.S.Symbol.ordered in
    (number_same before order vs sound m n, same_number before order vs sound m n gm gn)
