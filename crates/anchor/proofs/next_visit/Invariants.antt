-- `next_visit`: position by position, as `Searched` says.
use Rattle.anchor.specs.LowestEdges.{Searched}
use Rattle.anchor.proofs.next_visit.Given as goal

abbrev pub invariant-loop-q : goal.invariant-loop-q
invariant-loop-q l = Searched l.points l.at l.p l.to l.q
