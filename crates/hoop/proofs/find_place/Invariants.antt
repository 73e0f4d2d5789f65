-- `hoop::find_place` meets its contract: from the last end backward, as `Search` says.
use Prim.Native.Nat.{◌-◌}
use Rattle.graph.specs.Graph.{point_at}
use Rattle.hoop.proofs.Search.{Searching}
use Rattle.hoop.proofs.find_place.Given as goal

abbrev pub invariant-loop : goal.invariant-loop
invariant-loop l = Searching (point_at l.ax l.ay) (point_at l.bx l.by) l.home l.prv l.q l.initial.at l.end l.at (l.end - l.counter)
