-- `turn::doubled_area` meets its contract; the invariant: the sum so far and what is left make the area.
use Prim.Native.Nat.{◌*◌}
use Rattle.turn.proofs.Sums.{Summed}
use Rattle.turn.proofs.doubled_area.Given as goal

abbrev pub invariant-loop-k : goal.invariant-loop-k
invariant-loop-k l = Summed l.points l.home l.p l.sum (l.k * 2)
