-- `onward::go_round` meets its contract. The invariant: a step led to this end, and what was left of the ring before it
-- holds the answer (`Round`). The measure is how many ends are left.
use Rattle.onward.proofs.Rounds.{Round, to_home}
use Rattle.onward.proofs.go_round.Given as goal

abbrev pub invariant-loop-at : goal.invariant-loop-at
invariant-loop-at l = Round l.nxt l.prv l.state l.sense l.home l.at

abbrev pub decreases-loop-at : goal.decreases-loop-at
decreases-loop-at l = to_home l.nxt l.prv l.state l.sense l.home l.at
