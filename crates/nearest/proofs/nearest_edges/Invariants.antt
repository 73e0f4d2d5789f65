-- `nearest_edges`: edge by edge, as `Rounds` says.
use Rattle.anchor.specs.Anchors.{anchors_of}
use Rattle.candidates.specs.EdgeLists.{lists_of}
use Rattle.nearest.proofs.Offers.{Rounds}
use Rattle.nearest.proofs.nearest_edges.Given as goal

abbrev pub invariant-loop-k : goal.invariant-loop-k
invariant-loop-k l =
    Rounds (lists_of l.listed) l.mute l.n (anchors_of l.anchors) l.m l.initial.best l.best l.k
