-- `check_lists::any_short` meets its contract: some start falls or leaves its node short; the invariant: so far the answer tells whether a pair seen does.
use Rattle.std.proofs.Common.{◌≡◌, length}
use Rattle.laws.specs.Lowest.{some}
use Rattle.graph.specs.Checks.{short}
use Rattle.check_lists.proofs.any_short.Given as goal

abbrev pub invariant-loop-pair : goal.invariant-loop-pair
invariant-loop-pair l = l.wrong ≡ some (short l.start) (length l.yielded)
