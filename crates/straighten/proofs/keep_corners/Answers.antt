-- `straighten::keep_corners` meets its contract; the invariant: what is written and the corners still to be written make those of the whole contour.
use Prim.Native.Nat.{◌+◌}
use mathlib.Core.Path.{sym, ap, ◌∙◌, subst}
use Rattle.turn.specs.declared.Point.{Point}
use Rattle.turn.specs.Points.{from_to}
use Rattle.table.specs.Table.{point_in}
use Rattle.straighten.proofs.Passing.{Passing, starts, goes_on_by, ends_by}
use Rattle.straighten.proofs.keep_corners.Goals as goal

pub loop-i-init : goal.loop-i-init
loop-i-init c =
    let home = c.point_in-home.ensures in
    let last = c.point_in-last.ensures in
    record {
      prev = c.point_in-last.result;
      edge = c.between-u.ensures.0;
      short = c.between-u.ensures.1;
      passing =
          subst (λ (z : Point). Passing c.args.points.now c.args.from c.args.size c.args.to c.args.points.now
          c.point_in-last.result z c.args.to (c.args.from + 1)) (sym home)
          (subst (λ (z : Point). Passing c.args.points.now c.args.from c.args.size c.args.to c.args.points.now z
          (point_in c.args.points.now c.args.from) c.args.to (c.args.from + 1)) (sym last)
          (starts c.args.points.now c.args.from c.args.size c.args.to c.requires.3 c.requires.0 c.requires.1));
    }

pub loop-i-preserved : goal.loop-i-preserved
loop-i-preserved c =
    let l = c.loop-i in
    let k = c.keep_corner-w in
    let next = c.point_in-next in
    let v = c.between-v in
    goes_on_by c.args.points.now c.args.from c.args.size c.args.to c.requires.3 l.invariant c.loop-i-test.true
    k.new.points v.result next.result k.result next.ensures v.ensures k.ensures.value k.ensures.points_after

pub returns : goal.returns
returns c =
    let l = c.loop-i in
    let k = c.keep_corner in
    let v = c.between in
    let h = ends_by c.args.points.now c.args.from c.args.size c.args.to c.requires.3 l.invariant c.loop-i-test.false
    k.new.points
    v.result k.result (v.ensures.0 ∙ ap (from_to l.p) c.point_in-home.ensures) k.ensures.value k.ensures.points_after in
    record { value = h.0; points_after = h.1 }
