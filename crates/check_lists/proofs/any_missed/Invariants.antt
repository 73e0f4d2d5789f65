-- `check_lists::any_missed` meets its contract: some link is missed; the invariant: none below k is.
use Rattle.laws.specs.Lowest.{NoneBelow}
use Rattle.graph.specs.Checks.{missed}
use Rattle.check_lists.proofs.any_missed.Given as goal

abbrev pub invariant-loop-k : goal.invariant-loop-k
invariant-loop-k l = NoneBelow (missed l.aid l.bid l.start l.list) l.k
