-- `print::write_contours` meets its contract.
use Rattle.writing.specs.Write.{piece_fits, left_after}
use Rattle.print.proofs.Points.{contour_left, contours_done}
use Rattle.print.proofs.write_contours.Goals as goal

pub write_contour-next-requires-clause-i_in_bounds : goal.write_contour-next-requires-clause-i_in_bounds
write_contour-next-requires-clause-i_in_bounds c = piece_fits _ _ (contour_left _ _ _ c.loop-i.invariant c.loop-i-test.true)

pub loop-i-preserved : goal.loop-i-preserved
loop-i-preserved c = left_after _ _ (contour_left _ _ _ c.loop-i.invariant c.loop-i-test.true) c.write_contour-next.ensures

pub returns : goal.returns
returns c = contours_done _ _ _ c.loop-i.invariant c.loop-i-test.false
