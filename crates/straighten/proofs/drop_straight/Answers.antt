-- `straighten::drop_straight` meets its contract: the pass, then zeros past what it left.
use Prim.Native.Nat.{◌≤◌}
use native.Mathlib.Omega.{arith}
use Rattle.keep.specs.Outcome.{sum}
use Rattle.straighten.specs.Runs.{sizes_from}
use Rattle.straighten.proofs.Table.{corners_total}
use Rattle.straighten.proofs.drop_straight.Goals as goal

pub overflow_mul-to : goal.overflow_mul-to
overflow_mul-to c =
    let few : c.pass_contours-to.result ≤ sum (sizes_from c.args.len.now 0 c.args.c.contours) =
    omega (arith, c.pass_contours-to.ensures.value, corners_total c.args.points.now 0 (sizes_from c.args.len.now 0 c.args.c.contours)) in
    omega (arith, few, c.requires.few)

pub zero_from-requires : goal.zero_from-requires
zero_from-requires c =
    let few : c.pass_contours-to.result ≤ sum (sizes_from c.args.len.now 0 c.args.c.contours) =
    omega (arith, c.pass_contours-to.ensures.value, corners_total c.args.points.now 0 (sizes_from c.args.len.now 0 c.args.c.contours)) in
    omega (arith, few, c.requires.within, c.pass_contours-to.auto.points)
