use Rattle.std.proofs.Common.{List, length, drop, sym, refl, ap, ◌∙◌, subst, arith}
use mathlib.Core.Path.{subst⁻¹}
use Rattle.ledger.specs.Lists.{Codes}
use Rattle.ledger.specs.Ledger.{codes}
use Rattle.ledger.proofs.Drawn.{codes_proper}
use Rattle.memory.specs.declared.work.Place.{Place}
use Rattle.paths.specs.Changed.{changed}
use Rattle.paths.specs.Waiting.{Waits}
use Rattle.paths.proofs.Along.{changed_proper}
use Rattle.paths.proofs.Descending.{waits_push}
use Rattle.paths.proofs.changing.descend.Goals as goal

pub loop-frame-init : goal.loop-frame-init
loop-frame-init g c =
    let none = ap (λ (x : List Place). length x) c.requires.empty in (
      omega arith,
      omega arith,
      λ sound good. (
        good,
        refl,
        λ change.
            subst⁻¹ (λ (x : List Place). Waits g.S.Symbol.before (g.B.Shelf.vertices c.args.shelf.now) c.args.code.now x (changed g.S.Symbol.before change (codes (g.B.Shelf.vertices c.args.shelf.now) c.args.list) c.args.code.now)
            (changed g.S.Symbol.before change (codes (g.B.Shelf.vertices c.args.shelf.now) c.args.list) c.args.code.now)) c.requires.empty refl,
      ),
    )

pub push-requires : goal.push-requires
push-requires g c = let st = c.in-Some.ensures in omega (arith, c.loop-frame.invariant.0, c.loop-frame.invariant.1, st.falls, st.less, st.inside)

pub loop-frame-preserved : goal.loop-frame-preserved
loop-frame-preserved g c =
    let st = c.in-Some.ensures in
    let more = ap (λ (x : List Place). length x) c.push.ensures.frames in (
      st.inside,
      omega (arith, c.loop-frame.invariant.1, st.falls, c.push.ensures.room),
      λ sound good.
          let k = c.loop-frame.invariant.2 sound good in (
            st.good sound k.0,
            st.member sound k.0 ∙ k.1,
            λ change.
                waits_push g.S.Symbol.before (g.B.Shelf.vertices c.args.shelf.now) _ c.from.result c.loop-frame.stack.frames _ c.in-Some.frame _
                (changed g.S.Symbol.before change (codes (g.B.Shelf.vertices c.args.shelf.now) c.loop-frame.at) (drop c.loop-frame.spot c.args.code.now)) _
                c.push.ensures.frames c.from.ensures (st.makes sound k.0 change)
                (changed_proper g.S.Symbol.before g.met.S.Symbol.ordered change _ _ (codes_proper g.S.Symbol.before g.met.S.Symbol.ordered _ sound c.loop-frame.at k.0))
                (k.2 change),
          ),
    )

pub returns : goal.returns
returns g c =
    record {
      member = λ sound good. let k = c.loop-frame.invariant.2 sound good in (c.in_default.ensures sound k.0).1 ∙ k.1;
      waits = λ sound good change.
          let k = c.loop-frame.invariant.2 sound good in
          subst (λ (t : Codes g.row.S.Denot). Waits g.S.Symbol.before (g.B.Shelf.vertices c.args.shelf.now) c.args.code.now c.loop-frame.stack.frames t
          (changed g.S.Symbol.before change (codes (g.B.Shelf.vertices c.args.shelf.now) c.args.list) c.args.code.now))
          (sym ((c.in_default.ensures sound k.0).0 change)) (k.2 change);
    }
