use Rattle.std.proofs.Common.{◌∙◌}
use Rattle.wire.proofs.Putting.{headed}
use Rattle.wire.proofs.head.write_head.Goals as goal

pub returns : goal.returns
returns c =
    headed c.args.head c.copy_from_slice.new.self c.copy_from_slice-2.new.self c.copy_from_slice-3.new.self c.copy_from_slice-4.new.self c.args.out.now
    (c.copy_from_slice.ensures.after ∙ c.to_be_bytes.ensures) c.copy_from_slice-2.ensures.after (c.copy_from_slice-3.ensures.after ∙ c.to_be_bytes-2.ensures)
    (c.copy_from_slice-4.ensures.after ∙ c.to_be_bytes-3.ensures)
