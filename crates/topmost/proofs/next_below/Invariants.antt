-- `topmost::next_below` meets its contract. The invariant: a step led to this end, and what was left of the ring before it
-- holds the answer (`Falling`). The measure is how many ends are left; the link looked for comes before the last of them.
use Rattle.topmost.proofs.Falling.{Falling, to_go_down}
use Rattle.topmost.proofs.next_below.Given as goal

abbrev pub invariant-loop-at : goal.invariant-loop-at
invariant-loop-at l = Falling l.prv l.state l.held l.at

abbrev pub decreases-loop-at : goal.decreases-loop-at
decreases-loop-at l = to_go_down l.prv l.state l.held l.at
