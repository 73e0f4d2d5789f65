-- `left_bottom_segment_from`: the lowest so far, visit by visit, as `UpTo` says.
use Prim.Native.Nat.{◌-◌}
use Rattle.anchor.specs.AnchorPositions.{UpTo}
use Rattle.anchor.proofs.left_bottom_segment_from.Given as goal

abbrev pub invariant-loop-p : goal.invariant-loop-p
invariant-loop-p l = UpTo l.points l.from l.to l.at l.initial.best l.best l.p

abbrev pub decreases-loop-p : goal.decreases-loop-p
decreases-loop-p l = l.to - l.p
