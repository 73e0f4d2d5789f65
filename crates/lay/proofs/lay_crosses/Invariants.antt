-- `lay::lay_crosses` meets its contract; the invariant: nothing is wrong with the `Cross`es below v, and they are laid.
use Rattle.graph.specs.Graph.{lent}
use Rattle.lay.proofs.Passes.{Crossing}
use Rattle.lay.proofs.lay_crosses.Given as goal

abbrev pub invariant-loop-v : goal.invariant-loop-v
invariant-loop-v l = Crossing (lent l.ax l.ay l.bx l.by l.aid l.bid l.start l.list) l.state l.from l.v l.initial.nxt l.nxt l.prv
