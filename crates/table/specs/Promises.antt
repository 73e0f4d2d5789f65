-- What each public function promises, written once: its contract names it, and any two outcomes that it allows are equal.
use Rattle.std.specs.Prelude.{ℕ, ◌+◌, ◌≤◌, ◌≡◌, List, ℤ, eqb, take}
use Rattle.laws.specs.Test.{pick}
use Rattle.laws.specs.Unique.{Determines, by_equation, by_equation_with}
use Rattle.turn.specs.declared.Point.{Point}
use Rattle.table.specs.Table.{point_in, next_in, previous_in, hulls}

abbrev pub PointInSays : List ℤ → ℕ → Point → Type 0
PointInSays points p r = r ≡ point_in points p

pub point_in_once : (points : List ℤ) (p : ℕ) → Determines (PointInSays points p)
point_in_once points p = by_equation (point_in points p)

abbrev pub NextPositionSays : ℕ → ℕ → ℕ → ℕ → Type 0
NextPositionSays from to p r = r ≡ next_in from to p

pub next_position_once : (from to p : ℕ) → Determines (NextPositionSays from to p)
next_position_once from to p = by_equation (next_in from to p)

abbrev pub PreviousPositionSays : ℕ → ℕ → ℕ → ℕ → Type 0
PreviousPositionSays from to p r = r ≡ previous_in from to p

pub previous_position_once : (from to p : ℕ) → Determines (PreviousPositionSays from to p)
previous_position_once from to p = by_equation (previous_in from to p)

abbrev pub OneMoreIfHullSays : (kind count : ℕ) → ℕ → Type 0
OneMoreIfHullSays kind count r = r ≡ count + pick (eqb kind 0) 1 0

pub one_more_if_hull_once : (kind count : ℕ) → Determines (OneMoreIfHullSays kind count)
one_more_if_hull_once kind count = by_equation (count + pick (eqb kind 0) 1 0)

abbrev pub HullsBeforeSays : List ℕ → ℕ → ℕ → Type 0
HullsBeforeSays kind n r = (r ≡ hulls (take n kind)) × (r ≤ n)

pub hulls_before_once : (kind : List ℕ) (n : ℕ) → Determines (HullsBeforeSays kind n)
hulls_before_once kind n = by_equation_with (hulls (take n kind)) (λ r. r ≤ n)
