-- The reports of a whole table (request d): five lists with an entry for each contour, which is what its report answers.
use Rattle.std.specs.Prelude.{ℕ, ◌≤◌, min, Bool, true, false, List, length, get_or, set, Float, Option, Some, None, Result, Ok, Err}
use Rattle.laws.specs.Test.{pick}
use Rattle.laws.specs.Count.{sum}
use Rattle.laws.specs.Lists.{tabulate, over_front}
use Rattle.table.specs.Table.{Table, contour, contour_count, kind_of}
use Rattle.table.specs.TableChecks.{table_checked}
use Rattle.lookup.specs.Lookups.{owner_right}
use Rattle.report.specs.declared.records.ReportValues.{ReportValues}
use Rattle.report.specs.Reports.{measured, reported, values_of_report}
use Rattle.turn.specs.Reasons.{number_of}
use Rattle.turn.specs.Refusals.{Checked}
use Rattle.turn.specs.declared.Refusal.{Refusal}
use Rattle.report.specs.declared.records.Measures.{Measures}
use Rattle.report_all.specs.declared.records.Filled.{Filled}

-- ---- the lists
pub record Columns : Type 0 where
  pub area : List Float
  pub left : List Float
  pub bottom : List Float
  pub right : List Float
  pub top : List Float

abbrev pub columns : (area left bottom right top : List Float) → Columns
columns area left bottom right top = record { area = area; left = left; bottom = bottom; right = right; top = top }

-- each has n entries or more
abbrev pub Room : Columns → ℕ → Type 0
Room k n = (n ≤ length k.area) × (n ≤ length k.left) × (n ≤ length k.bottom) × (n ≤ length k.right) × (n ≤ length k.top)

-- how many entries the shortest list has, the owners' among them
abbrev pub shortest : (owner area left bottom right top : ℕ) → ℕ
shortest owner area left bottom right top = min owner (min area (min left (min bottom (min right top))))

abbrev pub room_of : List ℕ → Columns → ℕ
room_of owner k = shortest (length owner) (length k.area) (length k.left) (length k.bottom) (length k.right) (length k.top)

-- ---- the entries
abbrev pub is_missing : Option Measures → Bool
is_missing (Some m) = false
is_missing None = true

-- entry c of each list
abbrev pub stored : Columns → ℕ → ReportValues → Columns
stored k c v = columns (set k.area c v.area) (set k.left c v.left) (set k.bottom c v.bottom) (set k.right c v.right)
    (set k.top c v.top)

-- a rule's entries for the numbers below n, in front of the old tails
abbrev pub entered : (ℕ → ReportValues) → ℕ → Columns → Columns
entered f n k = columns (over_front (tabulate (λ c. (f c).area) n) k.area) (over_front (tabulate (λ c. (f c).left) n) k.left)
    (over_front (tabulate (λ c. (f c).bottom) n) k.bottom) (over_front (tabulate (λ c. (f c).right) n) k.right)
    (over_front (tabulate (λ c. (f c).top) n) k.top)

-- ---- all contours of a table
-- what the contour's own report answers
abbrev pub entry_at : Table → List ℕ → ℕ → ReportValues
entry_at t owner c = values_of_report (reported t owner c)

-- how many of the first n contours have no report
abbrev pub missing_below : Table → List ℕ → ℕ → ℕ
missing_below t owner n = sum (λ c. pick (is_missing (reported t owner c)) 1 0) n

pub record Counted : Type 0 where
  pub missing : ℕ
  pub lists : Columns

abbrev pub counted : ℕ → Columns → Counted
counted missing lists = record { missing = missing; lists = lists }

abbrev pub all_entered : Table → List ℕ → Columns → Counted
all_entered t owner k = counted (missing_below t owner (contour_count t)) (entered (entry_at t owner) (contour_count t) k)

abbrev pub filled : (contours missing : ℕ) → Result Filled Refusal
filled contours missing = Ok (record { contours = contours; missing = missing })

-- ---- document 01's number and place, and the counts, for each case of an answer
pub record ReportsValues : Type 0 where
  pub number : ℕ
  pub place : ℕ
  pub contours : ℕ
  pub missing : ℕ

abbrev pub values_of_reports : Result Filled Refusal → ReportsValues
values_of_reports (Ok f) = record { number = 0; place = 0; contours = f.contours; missing = f.missing }
values_of_reports (Err r) = record { number = number_of r.reason; place = r.place; contours = 0; missing = 0 }

-- ---- the answer with its values, and the lists
pub record Reporting : Type 0 where
  pub answer : Result Filled Refusal
  pub values : ReportsValues
  pub lists : Columns

abbrev pub reporting : Result Filled Refusal → Columns → Reporting
reporting answer lists = record { answer = answer; values = values_of_reports answer; lists = lists }

-- check 10 is asked once, with the room of the shortest list; after a refusal nothing has changed
abbrev pub reported_after : Checked → Table → List ℕ → Columns → Reporting
reported_after (Ok u) t owner k = reporting (filled (contour_count t) (all_entered t owner k).missing) (all_entered t owner k).lists
reported_after (Err r) t owner k = reporting (Err r) k

unfoldable pub reported_all : Table → List ℕ → Columns → Reporting
reported_all t owner k = reported_after (table_checked t (room_of owner k)) t owner k

-- ---- one contour, of a table that passes check 10
-- by its own shape number, were it a hull's, and the number of hulls
abbrev pub report_at : Table → List ℕ → ℕ → (shape hulls : ℕ) → Option Measures
report_at t owner c shape hulls = pick (owner_right (kind_of t c) (get_or owner c 0) shape hulls) (Some (measured (contour t c))) None
