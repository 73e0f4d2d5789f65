-- `fill_lists`: contour by contour, as `Filling` says.
use Rattle.table.specs.Table.{table_of}
use Rattle.report_all.specs.Columns.{columns}
use Rattle.report_all.proofs.Filling.{Filling}
use Rattle.report_all.proofs.fill_lists.Given as goal

abbrev pub invariant-loop-c : goal.invariant-loop-c
invariant-loop-c l =
    Filling (table_of l.contours) l.owner (columns l.initial.area l.initial.left l.initial.bottom l.initial.right l.initial.top)
    (columns l.area l.left l.bottom l.right l.top) l.c l.shape l.missing
