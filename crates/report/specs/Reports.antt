-- What a report answers (request d).
use Rattle.std.specs.Prelude.{ℕ, List, eqb, Float, Option, Some, None}
use Rattle.std.specs.Float.{nan}
use Rattle.laws.specs.Test.{pick}
use Rattle.turn.specs.declared.Point.{Point}
use Rattle.turn.specs.Area.{area}
use Rattle.table.specs.Table.{Table, contour}
use Rattle.lookup.specs.Lookups.{looked_up, looked_up_values}
use Rattle.extent.specs.Extent.{extent_of}
use Rattle.millimetres.specs.declared.Frame.{Frame}
use Rattle.millimetres.specs.Millimetres.{square_millimetres, frame_of}
use Rattle.report.specs.declared.records.ReportValues.{ReportValues}
use Rattle.lookup.specs.declared.records.ContourRecord.{ContourRecord}
use Rattle.report.specs.declared.records.Measures.{Measures}

-- "a case that carries the area and the frame": of a contour's points
abbrev pub measured : List Point → Measures
measured l = record { area = square_millimetres (area l); frame = frame_of (extent_of l) }

-- "or a case that says there is no such contour, given exactly when 01's lookup gives none"
abbrev pub report_by : Option ContourRecord → List Point → Option Measures
report_by (Some r) l = Some (measured l)
report_by None l = None

unfoldable pub reported : Table → List ℕ → ℕ → Option Measures
reported t owner c = report_by (looked_up t owner c) (contour t c)

-- ---- the number and the values for each case of an answer: 1 where there is a report; where there is none 0, and none of the others is a number
abbrev pub no_values : ReportValues
no_values = record { found = 0; area = nan; left = nan; bottom = nan; right = nan; top = nan }

abbrev pub values_with : Float → Frame → ReportValues
values_with area frame = record { found = 1; area = area; left = frame.left; bottom = frame.bottom; right = frame.right; top = frame.top }

abbrev pub values_of_report : Option Measures → ReportValues
values_of_report (Some m) = values_with m.area m.frame
values_of_report None = no_values

-- these values, read off the table and the owners
abbrev pub values_of : List Point → ReportValues
values_of l = values_with (square_millimetres (area l)) (frame_of (extent_of l))

unfoldable pub reported_values : Table → List ℕ → ℕ → ReportValues
reported_values t owner c = pick (eqb (looked_up_values t owner c).found 1) (values_of (contour t c)) no_values
