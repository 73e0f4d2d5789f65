-- `gather_holes`: contour by contour, as `Gathering` says.
use Rattle.table.specs.Table.{table_of}
use Rattle.order.proofs.Gathers.{Gathering}
use Rattle.order.proofs.gather_holes.Given as goal

abbrev pub invariant-loop-c : goal.invariant-loop-c
invariant-loop-c l =
    Gathering (table_of l.contours) l.clockwise l.initial.who l.initial.anchors l.who l.anchors l.m l.c
