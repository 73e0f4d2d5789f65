-- What each public function promises, written once: its contract names it, and any two outcomes that it allows are equal.
use Rattle.std.specs.Prelude.{ℕ, ◌≡◌, List, ℤ}
use Rattle.laws.specs.Test.{pick}
use Rattle.laws.specs.Unique.{Determines, by_equation}
use Rattle.turn.specs.declared.Point.{Point}
use Rattle.graph.specs.Graph.{point_at}
use Rattle.rings.specs.Ends.{link_of, is_a}
use Rattle.leave.specs.Points.{put}

abbrev pub StartPointSays : (ax ay bx by : List ℤ) → ℕ → Point → Type 0
StartPointSays ax ay bx by h r = r ≡ pick (is_a h) (point_at bx by (link_of h)) (point_at ax ay (link_of h))

pub start_point_once : (ax ay bx by : List ℤ) (h : ℕ) → Determines (StartPointSays ax ay bx by h)
start_point_once ax ay bx by h = by_equation (pick (is_a h) (point_at bx by (link_of h)) (point_at ax ay (link_of h)))

abbrev pub PutPointSays : List ℤ → ℕ → Point → List ℤ → Type 0
PutPointSays points at p points' = points' ≡ put points at p

pub put_point_once : (points : List ℤ) (at : ℕ) (p : Point) → Determines (PutPointSays points at p)
put_point_once points at p = by_equation (put points at p)
