-- `topmost::topmost` meets its contract. The invariant: from here the climb ends as it does from link k (`Climbing`).
-- The measure is what is left up to the ring's last.
use Rattle.topmost.proofs.Climbing.{Climbing, left}
use Rattle.topmost.proofs.topmost.Given as goal

abbrev pub invariant-loop-f : goal.invariant-loop-f
invariant-loop-f l = Climbing l.nxt l.state l.k l.at l.s l.f

abbrev pub decreases-loop-f : goal.decreases-loop-f
decreases-loop-f l = left l.nxt l.state l.at
