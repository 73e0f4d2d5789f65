-- `straighten::pass_contours` meets its contract; the invariant: what is written and the corners still to be written make those of the whole table.
use native.Mathlib.Omega.{arith}
use Rattle.straighten.proofs.Table.{few_corners, goes_on}
use Rattle.straighten.proofs.pass_contours.Goals as goal

pub overflow_cast-len : goal.overflow_cast-len
overflow_cast-len c =
    let l = c.loop-c in
    omega (
      arith,
      few_corners c.args.points.now c.args.first.now c.args.len.now c.args.contours c.requires l.points l.first l.len l.c l.at
          l.to l.invariant c.loop-c-test.true c.wide-size.result c.keep_corners-end.result
          c.wide-size.ensures c.keep_corners-end.ensures.value,
    )

pub loop-c-preserved : goal.loop-c-preserved
loop-c-preserved c =
    let l = c.loop-c in
    let k = c.keep_corners-end in
    goes_on c.args.points.now c.args.first.now c.args.len.now c.args.contours c.requires l.points l.first l.len l.c l.at
    l.to l.invariant c.loop-c-test.true c.wide-size.result k.result k.new.points c.wide-size.ensures k.ensures.value k.ensures.points_after
