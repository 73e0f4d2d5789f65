-- The points, the contour table and the counts as they grow: a walk entered as a contour, or counted as rejected.
use Rattle.std.specs.Prelude.{ℕ, ◌+◌, ◌*◌, ◌≤◌, Bool, List, [], ◌∷◌, length, set, ℤ, pos, nat_abs, ◌+ℤ◌}
use Rattle.std.proofs.Common.{arith}
use Rattle.laws.specs.Test.{pick}
use Rattle.laws.specs.Bounds.{abs_add}
use Rattle.turn.specs.Size.{is_kept}
use Rattle.turn.specs.Area.{wedge_bound}
use Rattle.graph.specs.Graph.{Graph}
use Rattle.keep.specs.declared.Counts.{Counts}
use Rattle.walk.specs.Walk.{Walk, points}
use Rattle.keep.specs.Outcome.{area_of}
use Rattle.walk.specs.Code.{paste}

-- ---- points, contour table and counts so far
pub record Tables : Type 0 where
  pub points : List ℤ
  pub first : List ℕ
  pub len : List ℕ
  pub kind : List ℕ
  pub counts : Counts

abbrev pub tables : List ℤ → List ℕ → List ℕ → List ℕ → Counts → Tables
tables pts first len kind counts = record { points = pts; first = first; len = len; kind = kind; counts = counts }

-- a walk of so many points, already written, and such an area, as a contour; and as a rejected walk
abbrev pub enter_kept : Bool → ℕ → ℤ → Tables → Tables
enter_kept hole size area t = tables t.points
    (set t.first t.counts.contours t.counts.points)
    (set t.len t.counts.contours size)
    (set t.kind t.counts.contours (pick hole 1 0))
    (record {
      contours = t.counts.contours + 1;
      points = t.counts.points + size;
      rejected = t.counts.rejected;
      walked = t.counts.walked + size;
      left_out = t.counts.left_out;
      kept_area = t.counts.kept_area +ℤ area;
      rejected_area = t.counts.rejected_area;
    })

abbrev pub enter_rejected : ℕ → ℤ → Tables → Tables
enter_rejected size area t = tables t.points t.first t.len t.kind
    (record {
      contours = t.counts.contours;
      points = t.counts.points;
      rejected = t.counts.rejected + 1;
      walked = t.counts.walked + size;
      left_out = t.counts.left_out;
      kept_area = t.counts.kept_area;
      rejected_area = t.counts.rejected_area +ℤ area;
    })

abbrev pub enter : ℕ → Bool → ℕ → ℤ → Tables → Tables
enter minimum hole size area t = pick (is_kept size area minimum) (enter_kept hole size area t) (enter_rejected size area t)

abbrev pub with_points : Tables → List ℤ → Tables
with_points t pts = tables pts t.first t.len t.kind t.counts

-- one walk more, and all walks
abbrev pub noted : Graph → ℕ → Tables → Walk → Tables
noted g minimum t w =
    enter minimum w.hole (length w.steps) (area_of g w) (with_points t (paste t.points t.counts.points (points g w)))

abbrev pub all_noted : Graph → ℕ → Tables → List Walk → Tables
all_noted g minimum t [] = t
all_noted g minimum t (w ∷ ws) = all_noted g minimum (noted g minimum t w) ws

-- before the first walk
abbrev pub no_counts : Counts
no_counts = record { contours = 0; points = 0; rejected = 0; walked = 0; left_out = 0; kept_area = pos 0; rejected_area = pos 0 }

-- what the counts stay within, for n links, so many of them unvisited
pub record Within (n rest : ℕ) (c : Counts) : Type 0 where
  pub links : c.walked + rest ≤ n
  pub points : c.points ≤ c.walked
  pub contours : c.contours * 3 ≤ c.points
  pub rejected : c.rejected ≤ c.walked
  pub kept_area : nat_abs c.kept_area ≤ c.walked * (2 * wedge_bound)
  pub rejected_area : nat_abs c.rejected_area ≤ c.walked * (2 * wedge_bound)

-- a sum of two bounded so is bounded so
pub sum_within : (x y : ℤ) (m n : ℕ) → nat_abs x ≤ m * (2 * wedge_bound) → nat_abs y ≤ n * (2 * wedge_bound) → nat_abs (x +ℤ y) ≤ (m + n) * (2 * wedge_bound)
sum_within x y m n h k = omega (arith, abs_add x y)
