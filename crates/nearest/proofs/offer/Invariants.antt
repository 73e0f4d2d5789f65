-- `offer`: the anchors that the edge spans stand together, as `Offering` says.
use Rattle.anchor.specs.Anchors.{anchors_of}
use Rattle.candidates.specs.EdgeLists.{lists_of}
use Rattle.nearest.proofs.Offers.{Offering}
use Rattle.nearest.proofs.offer.Given as goal

abbrev pub invariant-loop-j : goal.invariant-loop-j
invariant-loop-j l =
    Offering (lists_of l.listed) (anchors_of l.anchors) l.k l.initial.best l.best l.initial.j l.j
