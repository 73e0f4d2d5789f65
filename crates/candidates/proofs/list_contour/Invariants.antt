-- `list_contour`: point by point, as `Listing` says.
use Rattle.candidates.proofs.Listing.{Listing}
use Rattle.candidates.proofs.list_contour.Given as goal

abbrev pub invariant-loop-k : goal.invariant-loop-k
invariant-loop-k l = Listing l.from l.to l.initial.next l.next l.k
