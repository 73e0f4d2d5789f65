-- The structs that cross the boundary hold document 01's numbers and values for each case of each answer, as extraction, binding, lookup and
-- reports set them out.
use Rattle.std.specs.Prelude.{ℕ, List, Option, Some, Result}
use Rattle.contour.specs.declared.Settings.{Settings}
use Rattle.scan.specs.Values.{Values, values_of}
use Rattle.extraction.specs.Extract.{Extracted}
use Rattle.finish.specs.Finish.{Buffers}
use Rattle.lookup.specs.declared.records.ContourRecord.{ContourRecord}
use Rattle.lookup.specs.Lookups.{LookupValues, values_of_lookup}
use Rattle.bind.specs.Outcome.{Outcome, BindingValues, values_of_binding}
use Rattle.report.specs.declared.records.ReportValues.{ReportValues}
use Rattle.report_all.specs.Columns.{Columns, ReportsValues, values_of_reports, Reporting}
use Rattle.guovdamas.specs.declared.GuovdamasSettings.{GuovdamasSettings}
use Rattle.guovdamas.specs.declared.GuovdamasExtraction.{GuovdamasExtraction}
use Rattle.guovdamas.specs.declared.GuovdamasBinding.{GuovdamasBinding}
use Rattle.guovdamas.specs.declared.GuovdamasRecord.{GuovdamasRecord}
use Rattle.guovdamas.specs.declared.GuovdamasReport.{GuovdamasReport}
use Rattle.guovdamas.specs.declared.GuovdamasReports.{GuovdamasReports}
use Rattle.turn.specs.declared.Refusal.{Refusal}
use Rattle.keep.specs.declared.Counts.{Counts}
use Rattle.report_all.specs.declared.records.Filled.{Filled}
use Rattle.bind.specs.declared.Bound.{Bound}

-- ---- extraction
abbrev pub settings_of : GuovdamasSettings → Settings
settings_of s = record { clockwise = s.clockwise; minimum = s.minimum; drop_straight = s.drop_straight }

abbrev pub extraction_with : Values → GuovdamasExtraction
extraction_with v = record {
  number = v.number;
  place = v.place;
  contours = v.counts.contours;
  points = v.counts.points;
  rejected = v.counts.rejected;
  walked = v.counts.walked;
  left_out = v.counts.left_out;
  kept_area = v.counts.kept_area;
  rejected_area = v.counts.rejected_area;
}

abbrev pub extraction_of : Result Counts Refusal → GuovdamasExtraction
extraction_of e = extraction_with (values_of e)

-- the answer with the whole of what was lent
pub record Extracting : Type 0 where
  pub answer : GuovdamasExtraction
  pub lent : Buffers

abbrev pub extracting : GuovdamasExtraction → Buffers → Extracting
extracting answer lent = record { answer = answer; lent = lent }

abbrev pub numbered_extracted : Extracted → Extracting
numbered_extracted e = extracting (extraction_with e.values) e.lent

-- ---- binding
abbrev pub binding_with : BindingValues → GuovdamasBinding
binding_with v = record { number = v.number; place = v.place; shapes = v.shapes; dropped = v.dropped }

abbrev pub binding_of : Result Bound Refusal → GuovdamasBinding
binding_of b = binding_with (values_of_binding b)

pub record Binds : Type 0 where
  pub answer : GuovdamasBinding
  pub owner : List ℕ

abbrev pub binding : GuovdamasBinding → List ℕ → Binds
binding answer owner = record { answer = answer; owner = owner }

abbrev pub numbered_bound : Outcome → Binds
numbered_bound o = binding (binding_with o.values) o.owner

-- ---- lookup
abbrev pub record_with : LookupValues → GuovdamasRecord
record_with v = record { found = v.found; role = v.role; owner = v.owner; first = v.first; len = v.len }

abbrev pub record_numbers : Option ContourRecord → GuovdamasRecord
record_numbers l = record_with (values_of_lookup l)

abbrev pub found_record : ContourRecord → GuovdamasRecord
found_record r = record_numbers (Some r)

-- ---- reports
abbrev pub report_with : ReportValues → GuovdamasReport
report_with v = record { found = v.found; area = v.area; left = v.left; bottom = v.bottom; right = v.right; top = v.top }

abbrev pub reports_with : ReportsValues → GuovdamasReports
reports_with v = record { number = v.number; place = v.place; contours = v.contours; missing = v.missing }

abbrev pub reports_of : Result Filled Refusal → GuovdamasReports
reports_of a = reports_with (values_of_reports a)

pub record FilledLists : Type 0 where
  pub answer : GuovdamasReports
  pub lists : Columns

abbrev pub fills : GuovdamasReports → Columns → FilledLists
fills answer lists = record { answer = answer; lists = lists }

abbrev pub numbered_reports : Reporting → FilledLists
numbered_reports o = fills (reports_with o.values) o.lists
