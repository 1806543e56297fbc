use Rattle.std.proofs.Common.{refl, subst, inl, inr}
use Rattle.writing.specs.Met.{MetOrNot}
use Rattle.writing.proofs.Unwinding.{read_is}
use Rattle.writing.proofs.walk.next_link.Goals as goal

pub returns-then-is_unmet-clause-value : goal.returns-then-is_unmet-clause-value
returns-then-is_unmet-clause-value g c = λ formed. (
  record { label = _; zero = c.in_ok-zero.zero; one = c.in_ok-zero.one },
  read_is (g.B.Shelf.vertices c.args.shelf.now) c.args.n _ c.in_ok-zero.zero c.in_ok-zero.one (c.in_ok-zero.ensures.value formed),
  inl refl,
)

pub returns-then-is_unmet-2-clause-value : goal.returns-then-is_unmet-2-clause-value
returns-then-is_unmet-2-clause-value g c = λ formed. (
  record { label = _; zero = c.in_ok-zero.zero; one = c.in_ok-zero.one },
  read_is (g.B.Shelf.vertices c.args.shelf.now) c.args.n _ c.in_ok-zero.zero c.in_ok-zero.one (c.in_ok-zero.ensures.value formed),
  inr (subst (MetOrNot c.args.seen.now.places.now c.args.seen.now.met c.in_ok-zero.zero) c.if-is_unmet.false c.is_unmet.ensures, refl),
)

pub returns-clause-value : goal.returns-clause-value
returns-clause-value g c = λ formed. (
  record { label = _; zero = c.in_ok-zero.zero; one = c.in_ok-zero.one },
  read_is (g.B.Shelf.vertices c.args.shelf.now) c.args.n _ c.in_ok-zero.zero c.in_ok-zero.one (c.in_ok-zero.ensures.value formed),
  subst (MetOrNot c.args.seen.now.places.now c.args.seen.now.met c.in_ok-zero.zero) c.if-is_unmet.false c.is_unmet.ensures,
  subst (MetOrNot c.args.seen.now.places.now c.args.seen.now.met c.in_ok-zero.one) c.if-is_unmet-2.false c.is_unmet-2.ensures,
)
