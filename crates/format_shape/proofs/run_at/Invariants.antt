-- `format_shape::run_at` meets its contract.
use Prim.Native.Nat.{◌-◌}
use Rattle.format_records.specs.Records.{looks}
use Rattle.format_shape.specs.Runs.{Running}
use Rattle.format_shape.proofs.run_at.Given as goal

abbrev pub invariant-loop-next : goal.invariant-loop-next
invariant-loop-next l = Running l.kind l.s l.at l.r

abbrev pub decreases-loop-next : goal.decreases-loop-next
decreases-loop-next l = looks - l.r.count
