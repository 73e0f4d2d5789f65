-- What the cross product of two links from one point tells.
use mathlib.Core.Path.{◌≡◌, sym, ap}
use mathlib.Core.Bool.{false}
use lib.IntN.{pos}
use lib.Signed.{lt_z}
use Rattle.turn.specs.declared.Point.{Point}
use Rattle.turn.specs.Points.{differ, from_to, cross, clockwise}
use Rattle.graph.specs.PointLaws.{same_point}

-- the product of two links from one point is their turn
pub like_turn : (p r q s : Point) → differ p r ≡ false → lt_z (cross (from_to p q) (from_to r s)) (pos 0) ≡ clockwise p q s
like_turn p r q s h = ap (λ (t : Point). lt_z (cross (from_to p q) (from_to t s)) (pos 0)) (sym (same_point p r h))
