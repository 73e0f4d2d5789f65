-- After extraction and binding have succeeded every contour is reported, none is missing, and the doubled areas behind the reports sum to the kept total.
use Rattle.std.specs.Prelude.{ℕ, ◌<◌, ◌≡◌, Bool, List, ℤ, pos, Option, Some, None, Ok}
use Rattle.std.proofs.Common.{arith, sym, ap, ◌∙◌}
use Rattle.laws.specs.Test.{pick}
use Rattle.laws.specs.Count.{sum_same as Counts-same, sum_const}
use Rattle.turn.specs.Area.{area}
use Rattle.graph.specs.Graph.{Lent}
use Rattle.keep.specs.declared.Counts.{Counts}
use Rattle.finish.specs.Finish.{Buffers}
use Rattle.extraction.specs.Extract.{extracted_as, extracted}
use Rattle.table.specs.Table.{Table, contour, contour_count}
use Rattle.lookup.specs.Lookups.{looked_up, record_of}
use Rattle.bind.specs.Outcome.{bound_to, outcome, bound}
use Rattle.fit.specs.Fit.{written_table}
use Rattle.fit.specs.Found.{every_found}
use Rattle.fit.specs.Enclosed.{sum_to, sum_same, kept_enclosed}
use Rattle.report.specs.Reports.{measured, reported}
use Rattle.report.proofs.Reported.{measured_is}
use Rattle.report_all.specs.Columns.{is_missing, missing_below}
use Rattle.lookup.specs.declared.records.ContourRecord.{ContourRecord}

-- the whole doubled area behind a report; none is behind one that is missing
abbrev pub area_by : Option ContourRecord → Table → ℕ → ℤ
area_by (Some r) t c = area (contour t c)
area_by None t c = pos 0

abbrev pub area_behind : Table → List ℕ → ℕ → ℤ
area_behind t owner c = area_by (looked_up t owner c) t c

-- ---- what binding has bound
module _ (t : Table) (cw : Bool) (buffer owner : List ℕ) (shapes dropped : ℕ) (k : outcome (bound_to shapes dropped) owner ≡ bound t cw buffer) where
  found : (c : ℕ) → c < contour_count t → looked_up t owner c ≡ Some (record_of t owner c)
  found c l = every_found t cw buffer owner shapes dropped k c l

  pub all_reported : (c : ℕ) → c < contour_count t → reported t owner c ≡ Some (measured (contour t c))
  all_reported c l = sym (measured_is t owner c (record_of t owner c) (found c l))

  pub none_missing : missing_below t owner (contour_count t) ≡ 0
  none_missing =
      Counts-same (λ c. pick (is_missing (reported t owner c)) 1 0) (λ c. 0) (contour_count t) (λ c l. rw (all_reported c l))
      ∙ sum_const 0 (contour_count t) ∙ omega arith

-- The theorem: what extraction wrote and binding bound is reported whole, and the doubled areas behind all reports are extraction's kept total.
pub reports_total : (g : Lent) (top : List ℕ) (cw : Bool) (minimum : ℕ) (b b' : Buffers) (n : Counts) → extracted_as (Ok n) b' ≡ extracted g top cw minimum b
    → (buffer owner : List ℕ) (shapes dropped : ℕ) → outcome (bound_to shapes dropped) owner ≡ bound (written_table n b') cw buffer
    → sum_to (area_behind (written_table n b') owner) (contour_count (written_table n b')) ≡ n.kept_area
reports_total g top cw minimum b b' n h buffer owner shapes dropped k =
    let t : Table = written_table n b' in
    sum_same (area_behind t owner) (λ c. area (contour t c)) (contour_count t)
    (λ c l. ap (λ (a : Option ContourRecord). area_by a t c) (every_found t cw buffer owner shapes dropped k c l))
    ∙ kept_enclosed g top cw minimum b b' n h
