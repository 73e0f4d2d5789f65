-- `name_contours`: every place below j has been written.
use Rattle.nearest.specs.SearchLists.{NamedInto}
use Rattle.nearest.proofs.name_contours.Given as goal

abbrev pub invariant-loop-j : goal.invariant-loop-j
invariant-loop-j l = NamedInto l.of l.best l.j l.initial.under l.under
