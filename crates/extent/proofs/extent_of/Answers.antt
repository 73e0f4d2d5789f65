-- `extent_of`: the extent so far, spread over the points that are left, is that of all.
use native.Mathlib.Omega.{arith}
use native.Mathlib.Numerals.{add-one}
use Rattle.extent.specs.Parts.{points_on, points_end}
use Rattle.extent.proofs.extent_of.Goals as goal

pub loop-k-preserved : goal.loop-k-preserved
loop-k-preserved c =
    let l = c.loop-k in
    let points = c.args.points.now in
    let e = points_on points l.k (omega arith) in
    let s = c.spread-e.ensures in
    let q = c.point_in-in-loop-k.ensures in
    let n = add-one l.k in
    rw (n, s, q) (rw e at l.invariant)

pub returns : goal.returns
returns c = let l = c.loop-k in rw (points_end c.args.points.now l.k (omega arith)) at l.invariant
