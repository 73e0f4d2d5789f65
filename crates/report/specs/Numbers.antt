-- The values of a contour that is there are numbers: no NaN stands for it. That its area is a number exactly where there is a report, is proved in
-- proofs/Reported.antt.
use Rattle.std.specs.Prelude.{ℕ, ◌<◌, ◌≡◌, false, ℤ}
use Rattle.std.proofs.Common.{arith, subst}
use Rattle.std.specs.Float.Ieee.{is_nan}
use Rattle.turn.specs.declared.Point.{Point}
use Rattle.turn.specs.Points.{Coord, OnGrid}
use Rattle.table.specs.Table.{Table, contour, contour_count}
use Rattle.table.specs.Sound.{Sound}
use Rattle.extent.specs.Bounds.{Foremost}
use Rattle.millimetres.specs.Millimetres.{millimetres}
use Rattle.millimetres.specs.Exact.{quotient_number}
use Rattle.report.specs.declared.records.ReportValues.{ReportValues}
use Rattle.report.specs.Reports.{values_of}
use Rattle.report.specs.ReportLaws.{area_small, on_grid, frame_encloses}

-- all five are numbers, or none is
pub record Numbers (v : ReportValues) : Type 0 where
  pub area : is_nan v.area ≡ false
  pub left : is_nan v.left ≡ false
  pub bottom : is_nan v.bottom ≡ false
  pub right : is_nan v.right ≡ false
  pub top : is_nan v.top ≡ false

module _ (t : Table) (s : Sound t) (c : ℕ) (l : c < contour_count t) where
  -- an edge is the coordinate of a point, and so within the bounds
  edge : (Before : ℤ → ℤ → Type 0) (coordinate : Point → ℤ) (z : ℤ) → ((p : Point) → OnGrid p → Coord (coordinate p))
      → Foremost Before coordinate (contour t c) z → Coord z
  edge Before coordinate z on f = subst Coord f.its (on f.one (on_grid t s c l f.one f.here))

  coordinate_number : (z : ℤ) → Coord z → is_nan (millimetres z) ≡ false
  coordinate_number z h = quotient_number z 100 (omega arith) (omega arith) (omega arith)

  pub numbers : Numbers (values_of (contour t c))
  numbers =
      let f = frame_encloses t s c l in
      record {
        area = quotient_number _ 20000 (omega (arith, area_small t s c l)) (omega arith) (omega arith);
        left = coordinate_number _ (edge _ _ _ (λ p h. h.0) f.left);
        bottom = coordinate_number _ (edge _ _ _ (λ p h. h.1) f.bottom);
        right = coordinate_number _ (edge _ _ _ (λ p h. h.0) f.right);
        top = coordinate_number _ (edge _ _ _ (λ p h. h.1) f.top);
      }
