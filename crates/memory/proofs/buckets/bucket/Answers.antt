use Rattle.std.proofs.Common.{◌%◌, ap, ◌∙◌, mod-lt}
use Rattle.memory.specs.Buckets.{mixed, bucket}
use Rattle.memory.proofs.buckets.bucket.Goals as goal

pub returns : goal.returns
unfolding bucket
returns g c =
    record {
      value = ap (λ n. n % c.args.count) (c.mix-mixed.ensures ∙ ap (λ s. mixed s c.args.vertex.zero c.args.vertex.one) c.scatter.ensures);
      within = mod-lt c.mix-mixed.result c.requires;
    }
