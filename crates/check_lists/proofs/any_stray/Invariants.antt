-- `check_lists::any_stray` meets its contract: some node has a stray entry; the invariant: none below v has.
use Rattle.laws.specs.Lowest.{NoneBelow}
use Rattle.graph.specs.Checks.{stray_at}
use Rattle.check_lists.proofs.any_stray.Given as goal

abbrev pub invariant-loop-v : goal.invariant-loop-v
invariant-loop-v l = NoneBelow (stray_at l.aid l.bid l.start l.list) l.v
