-- `print::write_points` meets its contract.
use Rattle.std.proofs.Common.{rules}
use Rattle.writing.specs.Write.{piece_fits, left_after}
use Rattle.print.proofs.Points.{point_left, points_done}
use Rattle.print.proofs.write_points.Goals as goal

pub write_point-next-requires : goal.write_point-next-requires
write_point-next-requires c = piece_fits _ _ (point_left _ _ _ c.loop-p.invariant c.loop-p-test.true (search rules) (search rules))

pub loop-p-preserved : goal.loop-p-preserved
loop-p-preserved c =
    left_after _ _ (point_left _ _ _ c.loop-p.invariant c.loop-p-test.true (search rules) (search rules)) c.write_point-next.ensures

pub returns : goal.returns
returns c = points_done _ _ _ c.loop-p.invariant c.loop-p-test.false
