-- `anchor_point`: the anchor is the point at its position.
use mathlib.Core.Path.{ap, ◌∙◌}
use native.Mathlib.Omega.{arith}
use Rattle.table.specs.Table.{point_in}
use Rattle.anchor.specs.AnchorPositions.{anchor_high}
use Rattle.anchor.proofs.anchor_point.Goals as goal

pub point_in-requires : goal.point_in-requires
point_in-requires c = omega (arith, c.anchor_position.ensures, anchor_high c.args.from c.args.clockwise)

pub returns : goal.returns
returns c = c.point_in.ensures ∙ ap (point_in c.args.points.now) c.anchor_position.ensures
