use Rattle.ledger.proofs.Gathering.{sound_empty}
use Rattle.ledger.proofs.changes.fresh_sound.Goals as goal

pub returns : goal.returns
returns g c = sound_empty g.S.Symbol.before g.met.S.Symbol.ordered
