-- `spokes::stands_before` meets its contract; the invariant: so far the answer tells whether x stands among the entries looked at.
use Rattle.std.proofs.Common.{◌≡◌}
use Rattle.graph.specs.Quick.{stands_before}
use Rattle.spokes.proofs.stands_before.Given as goal

abbrev pub invariant-loop-e : goal.invariant-loop-e
invariant-loop-e l = l.stands ≡ stands_before l.here l.e-index l.x
