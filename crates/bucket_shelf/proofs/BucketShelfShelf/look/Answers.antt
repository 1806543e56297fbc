use Rattle.std.proofs.lemmas.List.{take-map}
use Rattle.bucket_shelf.specs.Chains.{vertex_of}
use Rattle.bucket_shelf.proofs.BucketShelfShelf.look.Goals as goal

pub returns : goal.returns
returns g c =
    let s = c.args.self.now in
    rw (take-map vertex_of s.used s.records.now, ← c.entries.ensures) c.look.ensures
