-- `check_ends::alike_node` meets its contract: the lowest node with two entries alike, over nodes, entries j and
-- entries i below j; each loop has found none so far, and the way out by the label has found one.
use Rattle.std.proofs.Common.{◌≡◌, get_or, None}
use Rattle.laws.specs.Lowest.{some, NoneBelow}
use Rattle.graph.specs.Graph.{point_at, part}
use Rattle.graph.specs.Checks.{node_at, alike, alike_at}
use Rattle.check_ends.proofs.alike_node.Given as goal

abbrev pub invariant-loop-e : goal.invariant-loop-e
invariant-loop-e l =
    (l.found ≡ None)
    × NoneBelow (λ s. alike (point_at l.ax l.ay) (point_at l.bx l.by) (node_at l.aid) l.state l.v (get_or l.here s 0) (get_or l.here l.j 0)) l.e-index

abbrev pub invariant-loop-j : goal.invariant-loop-j
invariant-loop-j l =
    (l.found ≡ None)
    × NoneBelow (λ t. some (λ s. alike (point_at l.ax l.ay) (point_at l.bx l.by) (node_at l.aid) l.state l.v (get_or l.here s 0)
    (get_or l.here t 0)) t) l.j

abbrev pub invariant-search : goal.invariant-search
invariant-search l =
    (l.found ≡ None)
    × NoneBelow (alike_at (point_at l.ax l.ay) (point_at l.bx l.by) (node_at l.aid) l.state (part l.start l.list)) l.v
