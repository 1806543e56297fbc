use Rattle.std.proofs.Common.{refl}
use Rattle.writing.proofs.Unwinding.{read_is}
use Rattle.writing.proofs.records.renumbered.Goals as goal

pub returns : goal.returns
returns g c = λ formed size. (
  record { label = c.in_ok-label.label; zero = c.in_ok-label.zero; one = c.in_ok-label.one },
  read_is (g.B.Shelf.vertices c.args.shelf.now) _ c.in_ok-label.label c.in_ok-label.zero c.in_ok-label.one (c.in_ok-label.ensures.value formed),
  refl,
  c.new_link.ensures,
  c.new_link-2.ensures,
)
