-- `some_point_fault`: the loop has passed points that are right, and has the last of them.
use Prim.Native.Nat.{◌+◌}
use mathlib.Core.Path.{◌≡◌}
use Rattle.laws.specs.Lowest.{NoneBelow}
use Rattle.table.specs.Table.{point_in, previous_in}
use Rattle.table.specs.TableChecks.{point_fault}
use Rattle.check_table.proofs.some_point_fault.Given as goal

abbrev pub invariant-loop-k : goal.invariant-loop-k
invariant-loop-k l =
    (l.last ≡ point_in l.points (previous_in l.from (l.from + l.len) (l.from + l.k))) × NoneBelow
    (λ i. point_fault l.points l.from (l.from + l.len) (l.from + i)) l.k
