-- `print::write_contours` meets its contract: what is left to write are the contours from number i on.
use Rattle.std.proofs.Common.{◌-◌}
use Rattle.print.specs.Answer.{owned_of, contours_from}
use Rattle.writing.specs.Write.{Unwritten}
use Rattle.print.proofs.write_contours.Given as goal

abbrev pub invariant-loop-i : goal.invariant-loop-i
invariant-loop-i l =
    let t = owned_of l.contours l.owner in
    Unwritten l.initial.out l.out l.at l.next (contours_from t l.i (l.count - l.i)) (contours_from t 0 l.count)
