-- What each public function promises, written once: its contract names it, and any two outcomes that it allows are equal.
use Rattle.std.specs.Prelude.{ℕ, List, ◌≡◌, refl, Bool}
use Rattle.laws.specs.Unique.{Determines, by_equation, same_part}
use Rattle.graph.specs.Graph.{Lent}
use Rattle.finish.specs.Finish.{Buffers}
use Rattle.finish.specs.Promises.{SameBuffers, same_buffers}
use Rattle.outlines.specs.Outlines.{outlined}
use Rattle.table.specs.Table.{Table}
use Rattle.lookup.specs.Lookups.{looked_up_values}
use Rattle.bind.specs.Outcome.{bound}
use Rattle.report.specs.Reports.{reported_values}
use Rattle.report_all.specs.Columns.{Columns, reported_all}
use Rattle.guovdamas.specs.declared.GuovdamasSettings.{GuovdamasSettings}
use Rattle.guovdamas.specs.declared.GuovdamasExtraction.{GuovdamasExtraction}
use Rattle.guovdamas.specs.declared.GuovdamasBinding.{GuovdamasBinding}
use Rattle.guovdamas.specs.declared.GuovdamasRecord.{GuovdamasRecord}
use Rattle.guovdamas.specs.declared.GuovdamasReport.{GuovdamasReport}
use Rattle.guovdamas.specs.declared.GuovdamasReports.{GuovdamasReports}
use Rattle.guovdamas.specs.Numbers.{settings_of, Extracting, extracting, numbered_extracted, Binds, binding, numbered_bound, record_with}
use Rattle.guovdamas.specs.Numbers.{report_with, FilledLists, fills, numbered_reports}

abbrev pub GuovdamasExtractSays : Lent → List ℕ → GuovdamasSettings → Buffers → GuovdamasExtraction → Buffers → Type 0
GuovdamasExtractSays g top settings before r after = extracting r after ≡ numbered_extracted (outlined g top (settings_of settings) before)

pub guovdamas_extract_once : (g : Lent) (top : List ℕ) (settings : GuovdamasSettings) (before : Buffers) (r s : GuovdamasExtraction) (b c : Buffers)
    → GuovdamasExtractSays g top settings before r b → GuovdamasExtractSays g top settings before s c
    → (r ≡ s) × (SameBuffers b c)
guovdamas_extract_once g top settings before r s b c p q = (
  same_part (λ (e : Extracting). e.answer) p q,
  same_buffers (same_part (λ (e : Extracting). e.lent) p q) refl,
)

abbrev pub GuovdamasBindSays : Table → Bool → List ℕ → GuovdamasBinding → List ℕ → Type 0
GuovdamasBindSays t clockwise owner r owner' = binding r owner' ≡ numbered_bound (bound t clockwise owner)

pub guovdamas_bind_once : (t : Table) (clockwise : Bool) (owner : List ℕ) (r s : GuovdamasBinding) (owner₁ owner₂ : List ℕ)
    → GuovdamasBindSays t clockwise owner r owner₁ → GuovdamasBindSays t clockwise owner s owner₂ → (r ≡ s) × (owner₁ ≡ owner₂)
guovdamas_bind_once t clockwise owner r s owner₁ owner₂ p q = (same_part (λ (o : Binds). o.answer) p q, same_part (λ (o : Binds). o.owner) p q)

abbrev pub GuovdamasLookupSays : Table → List ℕ → ℕ → GuovdamasRecord → Type 0
GuovdamasLookupSays t owner contour r = r ≡ record_with (looked_up_values t owner contour)

pub guovdamas_lookup_once : (t : Table) (owner : List ℕ) (contour : ℕ) → Determines (GuovdamasLookupSays t owner contour)
guovdamas_lookup_once t owner contour = by_equation (record_with (looked_up_values t owner contour))

abbrev pub GuovdamasReportSays : Table → List ℕ → ℕ → GuovdamasReport → Type 0
GuovdamasReportSays t owner contour r = r ≡ report_with (reported_values t owner contour)

pub guovdamas_report_once : (t : Table) (owner : List ℕ) (contour : ℕ) → Determines (GuovdamasReportSays t owner contour)
guovdamas_report_once t owner contour = by_equation (report_with (reported_values t owner contour))

abbrev pub GuovdamasReportAllSays : Table → List ℕ → Columns → GuovdamasReports → Columns → Type 0
GuovdamasReportAllSays t owner before r after = fills r after ≡ numbered_reports (reported_all t owner before)

pub guovdamas_report_all_once : (t : Table) (owner : List ℕ) (before : Columns) (r s : GuovdamasReports) (k l : Columns)
    → GuovdamasReportAllSays t owner before r k → GuovdamasReportAllSays t owner before s l → (r ≡ s) × (k ≡ l)
guovdamas_report_all_once t owner before r s k l p q = (same_part (λ (o : FilledLists). o.answer) p q, same_part (λ (o : FilledLists). o.lists) p q)
