-- `each_link::bad_link` meets its contract: the lowest link that is wrong; the invariant: none below k is.
use Rattle.laws.specs.Lowest.{NoneBelow}
use Rattle.graph.specs.Graph.{lent}
use Rattle.graph.specs.Checks.{link_wrong}
use Rattle.each_link.proofs.bad_link.Given as goal

abbrev pub invariant-loop-k : goal.invariant-loop-k
invariant-loop-k l = NoneBelow (link_wrong (lent l.ax l.ay l.bx l.by l.aid l.bid l.start l.list) l.top l.state) l.k
