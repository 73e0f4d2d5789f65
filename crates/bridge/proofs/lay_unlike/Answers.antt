-- `bridge::lay_unlike` meets its contract: the points are one, and two ends are stored.
use mathlib.Core.Path.{◌≡◌, refl, sym, ap₂, ◌∙◌}
use Rattle.turn.specs.Points.{differ}
use Rattle.graph.specs.Graph.{point_at}
use Rattle.bridge.proofs.lay_unlike.Goals as goal

pub returns-then-differ : goal.returns-then-differ
returns-then-differ c =
    let asked : let x = c.args in c.differ.result ≡ differ (point_at x.bx.now x.by.now x.e) (point_at x.ax.now x.ay.now x.f) = c.differ.ensures ∙ ap₂ differ
    c.point_at.ensures c.point_at-2.ensures in record {
      value = sym c.if-differ.true ∙ asked;
      nxt_after = refl;
    }

pub returns : goal.returns
returns c =
    let asked : let x = c.args in c.differ.result ≡ differ (point_at x.bx.now x.by.now x.e) (point_at x.ax.now x.ay.now x.f) = c.differ.ensures ∙ ap₂ differ
    c.point_at.ensures c.point_at-2.ensures in
    let t = c in record {
      value = sym t.if-differ.false ∙ asked;
      nxt_after = c.lay_pair.ensures;
    }
