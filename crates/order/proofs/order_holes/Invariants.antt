-- `order_holes`: hole by hole, as `Ordering` says.
use Rattle.anchor.specs.Anchors.{anchors_of}
use Rattle.order.proofs.Insertions.{Ordering}
use Rattle.order.proofs.order_holes.Given as goal

abbrev pub invariant-loop-j : goal.invariant-loop-j
invariant-loop-j l = Ordering (anchors_of l.anchors) l.who l.initial.ord l.ord l.j
