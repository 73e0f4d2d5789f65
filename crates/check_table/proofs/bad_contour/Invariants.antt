-- `bad_contour`: the loop has passed contours that are right, and knows where the next range must begin.
use mathlib.Core.Path.{◌≡◌}
use Rattle.laws.specs.Lowest.{NoneBelow}
use Rattle.table.specs.Table.{Table, table_of}
use Rattle.table.specs.TableChecks.{bad_contour, start_in}
use Rattle.check_table.proofs.bad_contour.Given as goal

abbrev pub invariant-loop-c : goal.invariant-loop-c
invariant-loop-c l = let t : Table = table_of l.contours in (l.start ≡ start_in t.first t.len l.c) × NoneBelow (bad_contour t) l.c
