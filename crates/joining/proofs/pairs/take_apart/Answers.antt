use Rattle.std.proofs.Common.{ℕ, Option, sym, ◌∙◌, subst, ap₂}
use Rattle.joining.specs.Pairs.{parted, Falls}
use Rattle.joining.specs.declared.pairs.Split.{Split}
use Rattle.joining.proofs.Splits.{part_falls}
use Rattle.joining.proofs.pairs.take_apart.Goals as goal

pub returns : goal.returns
returns g c =
    record {
      below =
          subst (λ (r : Option (Split g.row.S.Denot)). Falls c.args.pair r) (sym c.part_by.ensures)
          (part_falls g.S.Symbol.before c.args.pair _ _ c.read_vertex-first.ensures.below c.read_vertex-second.ensures.below);
      value = λ formed.
          c.part_by.ensures ∙
          ap₂ (λ (a b : Option (g.row.S.Denot × ℕ × ℕ)). parted g.S.Symbol.before c.args.pair a b) (c.read_vertex-first.ensures.value formed) (c.read_vertex-second.ensures.value formed);
    }
