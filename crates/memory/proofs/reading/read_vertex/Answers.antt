use Rattle.std.proofs.Common.{◌≡◌, ℕ, Some, ap, ◌∙◌, ap₂, arith}
use Rattle.ledger.proofs.Least.{vertex_from_2}
use Rattle.memory.proofs.Looks.{looked}
use Rattle.memory.proofs.reading.read_vertex.Goals as goal

pub returns : goal.returns
returns g c =
    let e = c.in_ok-label.ensures in
    let l = looked (g.B.Shelf.vertices c.args.shelf.now) c.args.n (c.in_ok-label.label, c.in_ok-label.zero, c.in_ok-label.one) e in
    let from = vertex_from_2 (g.B.Shelf.vertices c.args.shelf.now) c.args.n l.0 l.1 in
    record {
      below = (from, omega arith, omega arith);
      value = λ formed.
          let zero_low = formed.zero_below c.args.n l.0 l.1 in
          let one_low = formed.one_below c.args.n l.0 l.1 in
          let zero_is : c.in_ok-label.zero ≡ l.0.zero = ap (λ (t : g.row.S.Denot × ℕ × ℕ). t.1) l.2 in
          let one_is : c.in_ok-label.one ≡ l.0.one = ap (λ (t : g.row.S.Denot × ℕ × ℕ). t.2) l.2 in
          let z : c.min.result ≡ c.in_ok-label.zero = omega arith in
          let o : c.min-2.result ≡ c.in_ok-label.one = omega arith in
          ap₂ (λ (x y : ℕ). Some (c.in_ok-label.label, x, y)) z o ∙ e;
    }
