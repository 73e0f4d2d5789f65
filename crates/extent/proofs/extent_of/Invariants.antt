-- `extent_of`: the extent so far, spread over the points that are left, is that of all.
use mathlib.Core.Path.{◌≡◌}
use lib.ListN.{drop}
use Rattle.turn.specs.Area.{points_of}
use Rattle.extent.specs.Extent.{spread_over, extent_of}
use Rattle.extent.proofs.extent_of.Given as goal

abbrev pub invariant-loop-k : goal.invariant-loop-k
invariant-loop-k l = spread_over l.e (drop l.k (points_of l.points)) ≡ extent_of (points_of l.points)
