-- `quick_links::any_misplaced` meets its contract; the invariant: so far the answer tells
-- whether a link below k has wrong points.
use Rattle.std.proofs.Common.{◌≡◌}
use Rattle.laws.specs.Lowest.{some}
use Rattle.graph.specs.Graph.{point_at}
use Rattle.quick_links.specs.Quick.{misplaced_at}
use Rattle.quick_links.proofs.any_misplaced.Given as goal

abbrev pub invariant-loop-k : goal.invariant-loop-k
invariant-loop-k l = l.wrong ≡ some (misplaced_at (point_at l.ax l.ay) (point_at l.bx l.by)) l.k
