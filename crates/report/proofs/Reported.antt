-- A report is missing exactly where the lookup is, and its values are numbers exactly where it is not.
use Rattle.std.specs.Prelude.{ℕ, ◌≡◌, true, List, take, drop, length, eqb, Option, Some, None}
use Rattle.std.specs.Float.Ieee.{is_nan}
use Rattle.std.proofs.Common.{sym, ap₂, ◌∙◌}
use Rattle.std.proofs.lemmas.Option.{none-some}
use Rattle.std.proofs.Math.Path.{refl, ap}
use Rattle.laws.specs.Test.{pick, true≢false}
use Rattle.laws.specs.Fails.{Iff}
use Rattle.turn.specs.Area.{points_of}
use Rattle.table.specs.Table.{Table, contour}
use Rattle.table.specs.Passing.{passes_sound}
use Rattle.lookup.specs.declared.records.ContourRecord.{ContourRecord}
use Rattle.lookup.specs.Lookups.{LookupValues, looked_up, values_of_lookup}
use Rattle.lookup.specs.LookupLaws.{found_present, looked_up_values_lem}
use Rattle.report.specs.Reports.{measured, report_by, reported, no_values, values_of_report, values_of, reported_values}
use Rattle.report.specs.ReportLaws.{first_is, len_is}
use Rattle.report.specs.Numbers.{numbers}

-- ---- by the lookup's two cases
module _ (t : Table) (owner : List ℕ) (c : ℕ) where
  pub missing_is : looked_up t owner c ≡ None → None ≡ reported t owner c
  unfolding reported
  missing_is e = rw e

  pub measured_is : (r : ContourRecord) → looked_up t owner c ≡ Some r → Some (measured (contour t c)) ≡ reported t owner c
  unfolding reported
  measured_is r e = rw e

  -- "given exactly when 01's lookup gives none"
  pub missing_as_lookup : Iff (reported t owner c ≡ None) (looked_up t owner c ≡ None)
  missing_as_lookup = record { to = λ h. go (looked_up t owner c) refl h; from = λ e. sym (missing_is e) }
    where
      go : (a : Option ContourRecord) → looked_up t owner c ≡ a → reported t owner c ≡ None → a ≡ None
      go (Some r) e h = absurd (none-some _ (sym (measured_is r e ∙ h)))
      go None e h = refl

  -- what is answered has the values that are read off the table and the owners
  pub reported_values_lem : values_of_report (reported t owner c) ≡ reported_values t owner c
  unfolding reported reported_values
  reported_values_lem =
      go (looked_up t owner c) ∙ ap (λ (v : LookupValues). pick (eqb v.found 1) (values_of (contour t c)) no_values) (looked_up_values_lem t owner c)
    where
      go : (a : Option ContourRecord)
          → values_of_report (report_by a (contour t c)) ≡ pick (eqb (values_of_lookup a).found 1) (values_of (contour t c)) no_values
      go (Some r) = refl
      go None = refl

  -- ---- what was found
  module _ (r : ContourRecord) (e : looked_up t owner c ≡ Some r) where
    pub found_is : Some (measured (take r.len (drop r.first (points_of t.points)))) ≡ reported t owner c
    found_is = ap₂ (λ n from. Some (measured (take n (drop from (points_of t.points))))) (len_is t owner c r e) (first_is t owner c r e) ∙ measured_is r e

-- the area is no number exactly where there is no such contour
pub none_is_missing : (t : Table) (owner : List ℕ) (c : ℕ) → Iff (is_nan (values_of_report (reported t owner c)).area ≡ true) (reported t owner c ≡ None)
unfolding is_nan
none_is_missing t owner c = record { to = λ h. go (looked_up t owner c) refl h; from = λ e. rw e }
  where
    go : (a : Option ContourRecord) → looked_up t owner c ≡ a → is_nan (values_of_report (reported t owner c)).area ≡ true → reported t owner c ≡ None
    go None e h = sym (missing_is t owner c e)
    go (Some r) e h =
        let p = found_present t owner c r e in
        let n = numbers t ((passes_sound t (length owner)).to p.passes).0 c p.below in
        absurd (true≢false (rw (sym (measured_is t owner c r e)) at h) n.area)
