use Rattle.ledger.proofs.Least.{at_least}
use Rattle.ledger.proofs.diagrams.minimal.Goals as goal

pub returns : goal.returns
returns g c vs sound n good r counts ds diagram d good_d same =
    at_least g.S.Symbol.before g.met.S.Symbol.ordered vs ds sound diagram.later n r counts d same
