-- `graph::away` meets its contract: both ends lie within the bounds.
use mathlib.Core.Path.{◌∙◌}
use Rattle.graph.specs.Graph.{point_at}
use Rattle.graph.specs.Checks.{node_at}
use Rattle.graph.specs.EndLaws.{end_on_grid, ends_away}
use Rattle.graph.proofs.away.Goals as goal

pub between-requires : goal.between-requires
between-requires c =
    let s = c in
    let x = s.args in
    let a = s.requires.grids.a_grid x.k s.requires.k_in_bounds in
    let b = s.requires.grids.b_grid x.k s.requires.k_in_bounds in (
      rw c.end_at.ensures (end_on_grid (point_at x.ax.now x.ay.now) (point_at x.bx.now x.by.now) (node_at x.aid.now)
          x.v x.k a b),
      rw c.end_at-2.ensures (end_on_grid (point_at x.bx.now x.by.now) (point_at x.ax.now x.ay.now) (node_at x.aid.now) x.v x.k b a),
    )

pub returns : goal.returns
returns c =
    let x = c.args in (
      rw (c.end_at.ensures, c.end_at-2.ensures) at c.between.ensures.0
          ∙ ends_away (point_at x.ax.now x.ay.now) (point_at x.bx.now x.by.now) (node_at x.aid.now) x.v x.k,
      c.between.ensures.1,
    )
