-- What each public function promises, written once: its contract names it, and any two outcomes that it allows are equal.
use Rattle.std.specs.Prelude.{◌≡◌, List, ℤ}
use Rattle.laws.specs.Unique.{Determines, by_equation}
use Rattle.turn.specs.Area.{points_of}
use Rattle.extent.specs.declared.Extent.{Extent}
use Rattle.extent.specs.Extent.{extent_of}

abbrev pub ExtentOfSays : List ℤ → Extent → Type 0
ExtentOfSays points r = r ≡ extent_of (points_of points)

pub extent_of_once : (points : List ℤ) → Determines (ExtentOfSays points)
extent_of_once points = by_equation (extent_of (points_of points))
