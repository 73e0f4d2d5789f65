-- `anchor_fault`: the last hole stands before this contour, and every contour has its first two points.
use native.Mathlib.Omega.{arith}
use Rattle.table.specs.Table.{Table, table_of}
use Rattle.anchor.specs.AnchorPositions.{paired}
use Rattle.check_anchors.proofs.Answers.{hole_low}
use Rattle.check_anchors.proofs.anchor_fault.Goals as goal

pub before_last-requires : goal.before_last-requires
before_last-requires c =
    let t : Table = table_of c.args.contours in
    (omega (arith, c.requires.2, hole_low t c.args.c, c.requires.1), paired t c.requires.0)
