-- `quick_links::any_misflagged` meets its contract; the invariant: so far the answer tells
-- whether a link seen has a wrong top or state.
use Rattle.std.proofs.Common.{◌≡◌, length}
use Rattle.laws.specs.Lowest.{some}
use Rattle.graph.specs.Checks.{flag_fault}
use Rattle.quick_links.proofs.any_misflagged.Given as goal

abbrev pub invariant-loop-t : goal.invariant-loop-t
invariant-loop-t l = l.wrong ≡ some (flag_fault l.top l.state) (length l.yielded)
