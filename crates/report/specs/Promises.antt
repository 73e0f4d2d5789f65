-- What each public function promises, written once: its contract names it, and any two outcomes that it allows are equal.
use Rattle.std.specs.Prelude.{ℕ, ◌≡◌, List, ℤ, take, drop, Option}
use Rattle.laws.specs.Unique.{Determines, by_equation, by_equation_with}
use Rattle.turn.specs.Area.{points_of}
use Rattle.table.specs.Table.{Table}
use Rattle.report.specs.declared.records.ReportValues.{ReportValues}
use Rattle.report.specs.Reports.{measured, reported, values_of_report, reported_values}
use Rattle.report.specs.declared.records.Measures.{Measures}

abbrev pub MeasuredSays : List ℤ → (first len : ℕ) → Measures → Type 0
MeasuredSays points first len r = r ≡ measured (take len (drop first (points_of points)))

pub measured_once : (points : List ℤ) (first len : ℕ) → Determines (MeasuredSays points first len)
measured_once points first len = by_equation (measured (take len (drop first (points_of points))))

abbrev pub ValuesOfSays : Option Measures → ReportValues → Type 0
ValuesOfSays r v = v ≡ values_of_report r

pub values_of_once : (r : Option Measures) → Determines (ValuesOfSays r)
values_of_once r = by_equation (values_of_report r)

-- the answer, and the number and values for its case
abbrev pub ReportSays : Table → List ℕ → ℕ → Option Measures → Type 0
ReportSays t owner c r = (r ≡ reported t owner c) × (values_of_report r ≡ reported_values t owner c)

pub report_once : (t : Table) (owner : List ℕ) (c : ℕ) → Determines (ReportSays t owner c)
report_once t owner c = by_equation_with (reported t owner c) (λ r. values_of_report r ≡ reported_values t owner c)
