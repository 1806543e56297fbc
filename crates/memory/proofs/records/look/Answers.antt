use Rattle.std.proofs.Common.{Some, sym, ap, ◌∙◌}
use Rattle.std.specs.Option.{option_map}
use Rattle.ledger.specs.Diagrams.{parts}
use Rattle.memory.proofs.Standing.{look_number}
use Rattle.memory.proofs.records.look.Goals as goal

pub returns : goal.returns
returns g c =
    let at = c.in_ok-checked_sub.ensures in
    let read = c.in_ok-record.ensures.lookup in
    let there = look_number g.T.Record.vertex c.args.records.now c.args.n c.in_ok-record.record.now at.0 (rw at.1 at read.3.0) (rw at.1 at read.1) in
    ap (λ v. option_map parts (Some v)) c.vertex-label.ensures ∙ sym (ap (option_map parts) there)
