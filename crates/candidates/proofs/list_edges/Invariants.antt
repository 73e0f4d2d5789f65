-- `list_edges`: contour by contour, as `RoundInto` says.
use Rattle.candidates.specs.EdgeLists.{RoundInto}
use Rattle.candidates.proofs.list_edges.Given as goal

abbrev pub invariant-loop-c : goal.invariant-loop-c
invariant-loop-c l = RoundInto l.first l.len l.c l.initial.next l.initial.of l.next l.of
