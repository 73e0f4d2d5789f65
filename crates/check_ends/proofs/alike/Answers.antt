-- `check_ends::alike` meets its contract: by whether the links are parallel, and whether one of the two is skipped.
use Rattle.std.proofs.Common.{ap, ap₂, ◌∙◌, w64, of_z}
use Rattle.turn.specs.Points.{cross}
use Rattle.graph.specs.EndLaws.{not_parallel}
use Rattle.graph.specs.Graph.{point_at}
use Rattle.graph.specs.Checks.{node_at}
use Rattle.check_ends.proofs.alike.Goals as goal

pub returns-then-cross_product-ne0 : goal.returns-then-cross_product-ne0
returns-then-cross_product-ne0 c =
    let x = c.args in
    not_parallel (point_at x.ax.now x.ay.now) (point_at x.bx.now x.by.now) (node_at x.aid.now) x.state.now x.v x.e x.f
    (λ h. c.if-cross_product-ne0.true (ap (of_z w64) (c.cross_product.ensures.0 ∙ ap₂ cross c.along.ensures.0
    c.along-2.ensures.0 ∙ h)))
