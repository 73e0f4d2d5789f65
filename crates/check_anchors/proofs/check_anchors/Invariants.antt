-- `check_anchors`: the loop has passed contours that are right, and knows the last hole.
use mathlib.Core.Path.{◌≡◌}
use Rattle.laws.specs.Lowest.{NoneBelow}
use Rattle.table.specs.Table.{Table, table_of}
use Rattle.anchor.specs.AnchorChecks.{hole_before, bad_anchor}
use Rattle.check_anchors.specs.Holes.{number_and_one}
use Rattle.check_anchors.proofs.check_anchors.Given as goal

abbrev pub invariant-loop-c : goal.invariant-loop-c
invariant-loop-c l = let t : Table = table_of l.contours in (number_and_one l.last ≡ hole_before t l.c) × NoneBelow (bad_anchor t l.clockwise) l.c
