-- `straighten::keep_corners` meets its contract; the invariant: what is written and the corners still to be written make those of the whole contour.
use Rattle.straighten.proofs.Passing.{PassingBy}
use Rattle.straighten.proofs.keep_corners.Given as goal

abbrev pub invariant-loop-i : goal.invariant-loop-i
invariant-loop-i l = PassingBy l.initial.points l.from l.size l.to l.points l.u l.p l.w l.i
