-- What each test of check 10 says, both ways: it fails exactly where the plain fact holds.
use Rattle.std.specs.Prelude.{ℕ, ◌+◌, ◌/◌, ◌%◌, ◌≤◌, ◌<◌, ◌≡◌, true, List, ℤ, length}
use Rattle.laws.specs.Fails.{Fails, then, lt_fails, ne_fails, not_fails, or_fails, some_fails}
use Rattle.turn.specs.Limits.{max_links}
use Rattle.turn.specs.PointOrder.{on_grid}
use Rattle.turn.specs.Points.{differ, OnGrid}
use Rattle.table.specs.Table.{point_in, previous_in}
use Rattle.table.specs.TableChecks.{misfit, range_fault, point_fault, some_point_fault, contour_fault}

-- ---- the parts of check 10
pub fitting : (points first len kind owners : ℕ) → Fails (misfit points first len kind owners)
    (((((len ≡ first) × (kind ≡ first)) × (first ≤ owners)) × (points / 2 ≤ max_links)) × (points % 2 ≡ 0))
fitting points first len kind owners = or_fails (or_fails (or_fails (or_fails (ne_fails _ _) (ne_fails _ _)) (lt_fails _ _)) (lt_fails _ _)) (ne_fails _ _)

-- a contour's range, length and kind are right
pub record Ranged (count start first len kind : ℕ) : Type 0 where
  pub consecutive : first ≡ start
  pub within : first + len ≤ count
  pub long : 3 ≤ len
  pub known : kind ≤ 1

pub ranged : (count start first len kind : ℕ) → Fails (range_fault count start first len kind) (Ranged count start first len kind)
ranged count start first len kind =
    then (or_fails (or_fails (or_fails (ne_fails first start) (lt_fails count (first + len))) (lt_fails len 3)) (lt_fails 1 kind))
    (record {
      to = λ h. record { consecutive = h.0.0.0; within = h.0.0.1; long = h.0.1; known = h.1 };
      from = λ h. (((h.consecutive, h.within), h.long), h.known);
    })

-- a point of a contour is on the grid and not the one before it
pub record Placed (points : List ℤ) (from to p : ℕ) : Type 0 where
  pub grid : OnGrid (point_in points p)
  pub apart : differ (point_in points (previous_in from to p)) (point_in points p) ≡ true

placed : (points : List ℤ) (from to p : ℕ) → Fails (point_fault points from to p) (Placed points from to p)
placed points from to p =
    then (or_fails (on_grid (point_in points p)) (not_fails _))
    (record { to = λ h. record { grid = h.0; apart = h.1 }; from = λ h. (h.grid, h.apart) })

pub all_placed : (points : List ℤ) (from len : ℕ) → Fails (some_point_fault points from len) ((k : ℕ) → k < len → Placed points from (from + len) (from + k))
all_placed points from len = some_fails len (λ k. placed points from (from + len) (from + k))

pub contour_right : (points : List ℤ) (start first len kind : ℕ)
    → Fails (contour_fault points start first len kind) ((Ranged (length points / 2) start first len kind)
    × ((k : ℕ) → k < len → Placed points first (first + len) (first + k)))
contour_right points start first len kind = or_fails (ranged (length points / 2) start first len kind) (all_placed points first len)
