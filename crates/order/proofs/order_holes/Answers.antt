-- `order_holes`: hole by hole, as `Ordering` says.
use native.Mathlib.Omega.{arith}
use Rattle.anchor.specs.Anchors.{Anchors, anchors_of}
use Rattle.order.proofs.Insertions.{ordering_below, ordering_more}
use Rattle.order.proofs.order_holes.Goals as goal

pub insert-requires-clause-j_in_bounds : goal.insert-requires-clause-j_in_bounds
insert-requires-clause-j_in_bounds c =
    let h : Anchors = anchors_of c.args.anchors.now in
    let s = c in let l = c.loop-j in
    (omega (arith, l.invariant.kept.len, s.requires.2), ordering_below h s.args.who.now _ l.ord l.j l.invariant)

pub loop-j-preserved : goal.loop-j-preserved
loop-j-preserved c =
    let h : Anchors = anchors_of c.args.anchors.now in
    let l = c.loop-j in
    ordering_more h c.args.who.now _ l.ord l.j l.invariant c.insert.new.ord c.insert.ensures
