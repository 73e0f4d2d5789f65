-- `format_shape::nodes_after` meets its contract.
use Rattle.format_shape.specs.Forms.{nodes_right}
use Rattle.format_shape.proofs.nodes_after.Goals as goal

pub returns : goal.returns
returns c =
    λ bodies h. nodes_right _ _ c.in_ok-r.r bodies _ h c.in_ok-r.ensures c.if-r-s.false
