-- `lay::lay_bridges` meets its contract; the invariant: nothing is wrong with the `Bridge`s below v, and they are laid.
use Rattle.graph.specs.Graph.{lent}
use Rattle.lay.proofs.Passes.{Bridging}
use Rattle.lay.proofs.lay_bridges.Given as goal

abbrev pub invariant-loop-v : goal.invariant-loop-v
invariant-loop-v l = Bridging (lent l.ax l.ay l.bx l.by l.aid l.bid l.start l.list) l.state l.crosses l.from l.v l.nxt l.lead
