-- `print::write_points` meets its contract: what is left to write are the points from p on.
use Rattle.std.proofs.Common.{◌+◌, ◌-◌}
use Rattle.print.specs.Answer.{point_lines}
use Rattle.writing.specs.Write.{Unwritten}
use Rattle.print.proofs.write_points.Given as goal

abbrev pub invariant-loop-p : goal.invariant-loop-p
invariant-loop-p l =
    Unwritten l.initial.out l.out l.at l.next (point_lines l.points l.p (l.first + l.count - l.p)) (point_lines l.points l.first l.count)
