-- `each_link::out_of_order` meets its contract: the lowest link out of order; the invariant: none below k is.
use Rattle.laws.specs.Lowest.{NoneBelow}
use Rattle.graph.specs.Graph.{point_at}
use Rattle.graph.specs.Checks.{out_of_order}
use Rattle.each_link.proofs.out_of_order.Given as goal

abbrev pub invariant-loop-k : goal.invariant-loop-k
invariant-loop-k l = NoneBelow (out_of_order (point_at l.ax l.ay)) l.k
