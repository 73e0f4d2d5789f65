-- `walk::walk_on` meets its contract. The invariant: what the walk leaves from here it leaves from the loop's start
-- (`Walking`). The measure is the number of unvisited links.
use Rattle.next.specs.Next.{unvisited}
use Rattle.walk.proofs.Walks.{Walking}
use Rattle.walk.proofs.walk_on.Given as goal

abbrev pub invariant-loop-w : goal.invariant-loop-w
invariant-loop-w l =
    Walking l.ax l.ay l.bx l.by l.nxt l.prv l.course.sense l.course.mark l.back l.begin l.initial.state l.initial.points l.initial.w l.state l.points l.w

abbrev pub decreases-loop-w : goal.decreases-loop-w
decreases-loop-w l = unvisited l.state
