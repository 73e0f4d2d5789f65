-- `zeros::restore` meets its contract: the states before the loop's are restored, the others as they were.
use Rattle.std.proofs.Common.{◌≡◌, ◌++◌, map, take, drop}
use Rattle.walk.specs.Code.{unmark}
use Rattle.zeros.proofs.restore.Given as goal

abbrev pub invariant-loop-x : goal.invariant-loop-x
invariant-loop-x l = l.state ≡ map unmark (take l.x-index l.initial.state) ++ drop l.x-index l.initial.state
