-- `number_hulls`: contour by contour, as `Numbering` says.
use Rattle.owners.proofs.Numbering.{Numbering}
use Rattle.owners.proofs.number_hulls.Given as goal

abbrev pub invariant-loop-c : goal.invariant-loop-c
invariant-loop-c l = Numbering l.kind l.own l.shape l.c
