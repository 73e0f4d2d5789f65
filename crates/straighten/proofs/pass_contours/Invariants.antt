-- `straighten::pass_contours` meets its contract; the invariant: what is written and the corners still to be written make those of the whole table.
use Rattle.straighten.proofs.Table.{Passed}
use Rattle.straighten.proofs.pass_contours.Given as goal

abbrev pub invariant-loop-c : goal.invariant-loop-c
invariant-loop-c l = Passed l.initial.points l.initial.first l.initial.len l.contours l.points l.first l.len l.c l.at l.to
