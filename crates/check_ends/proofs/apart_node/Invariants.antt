-- `check_ends::apart_node` meets its contract: the lowest node with ends apart; the invariant: none below v has.
use Rattle.laws.specs.Lowest.{NoneBelow}
use Rattle.graph.specs.Graph.{point_at, part}
use Rattle.graph.specs.Checks.{node_at, apart_at}
use Rattle.check_ends.proofs.apart_node.Given as goal

abbrev pub invariant-loop-v : goal.invariant-loop-v
invariant-loop-v l = NoneBelow (apart_at (point_at l.ax l.ay) (point_at l.bx l.by) (node_at l.aid) (part l.start l.list)) l.v
