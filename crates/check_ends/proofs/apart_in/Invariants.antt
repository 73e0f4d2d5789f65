-- `check_ends::apart_in` meets its contract: each entry is compared with the first; the invariant: none seen is apart from it.
use Rattle.std.proofs.Common.{◌+◌, get_or}
use Rattle.laws.specs.Lowest.{NoneBelow}
use Rattle.graph.specs.Graph.{point_at}
use Rattle.graph.specs.Checks.{node_at, apart}
use Rattle.check_ends.proofs.apart_in.Given as goal

abbrev pub invariant-loop-e : goal.invariant-loop-e
invariant-loop-e l =
    NoneBelow (λ j. apart (point_at l.ax l.ay) (point_at l.bx l.by) (node_at l.aid) l.v (get_or l.here 0 0) (get_or l.here j 0)) (l.e-index + 1)
