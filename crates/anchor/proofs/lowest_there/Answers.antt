-- `lowest_there`: both neighbours of the position, one after the other.
use mathlib.Core.Path.{ap, ◌∙◌}
use native.Mathlib.Omega.{arith}
use Rattle.table.specs.Table.{point_in}
use Rattle.table.specs.TableLaws.{grid_read}
use Rattle.table.specs.Passing.{next_within, previous_within}
use Rattle.anchor.specs.AnchorPositions.{lower_on_grid, there}
use Rattle.anchor.proofs.lowest_there.Goals as goal

pub point_in-next-requires : goal.point_in-next-requires
point_in-next-requires c =
    let s = c in omega (arith, c.next_position.ensures, (next_within s.args.from s.args.to s.args.p s.requires.0 s.requires.1).1)

pub point_in-previous-requires : goal.point_in-previous-requires
point_in-previous-requires c =
    let s = c in
    omega (arith, c.previous_position.ensures, (previous_within s.args.from s.args.to s.args.p s.requires.0 s.requires.1).1)

pub lower_end-requires : goal.lower_end-requires
lower_end-requires c =
    let s = c in
    let n = next_within s.args.from s.args.to s.args.p s.requires.0 s.requires.1 in (
      s.requires.4,
      s.requires.5,
      grid_read s.args.points.now _ _ c.point_in-next.ensures s.requires.3
          (omega (arith, c.next_position.ensures, n.1)),
    )

pub lower_end-requires-2 : goal.lower_end-requires-2
lower_end-requires-2 c =
    let s = c in
    let n = next_within s.args.from s.args.to s.args.p s.requires.0 s.requires.1 in
    let w = previous_within s.args.from s.args.to s.args.p s.requires.0 s.requires.1 in (
      s.requires.4,
      lower_on_grid s.args.at s.args.best c.point_in-next.result _ c.lower_end.ensures s.requires.5
          (grid_read s.args.points.now _ _ c.point_in-next.ensures s.requires.3
          (omega (arith, c.next_position.ensures, n.1))),
      grid_read s.args.points.now _ _ c.point_in-previous.ensures s.requires.3
          (omega (arith, c.previous_position.ensures, w.1)),
    )

pub returns : goal.returns
returns c =
    let a = c.args in
    there a.points.now a.from a.to a.at a.p a.best _ _ _ _
    (c.point_in-next.ensures
    ∙ ap (point_in a.points.now) c.next_position.ensures)
    (c.point_in-previous.ensures ∙ ap (point_in a.points.now) c.previous_position.ensures)
    c.lower_end.ensures c.lower_end-2.ensures
