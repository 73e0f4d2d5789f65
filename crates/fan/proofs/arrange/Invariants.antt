-- `fan::arrange` meets its contract; the invariant: the copy has every node's entries, in some order.
use Rattle.fan.specs.Arranged.{Arranged}
use Rattle.fan.proofs.arrange.Given as goal

abbrev pub invariant-loop-v : goal.invariant-loop-v
invariant-loop-v l = Arranged l.start l.list l.copy
