-- What each public function promises, written once: its contract names it, and any two outcomes that it allows are equal.
use Rattle.std.specs.Prelude.{ℕ, ◌≡◌, List, Result}
use Rattle.laws.specs.Unique.{same_part}
use Rattle.table.specs.Table.{Table}
use Rattle.report_all.specs.Columns.{Columns, Reporting, reporting, reported_all}
use Rattle.turn.specs.declared.Refusal.{Refusal}
use Rattle.report_all.specs.declared.records.Filled.{Filled}

-- over the lists at entry, then the answer and the lists at exit
abbrev pub ReportAllSays : Table → List ℕ → Columns → Result Filled Refusal → Columns → Type 0
ReportAllSays t owner before r after = reporting r after ≡ reported_all t owner before

pub report_all_once : (t : Table) (owner : List ℕ) (before : Columns) (r s : Result Filled Refusal) (k l : Columns) → ReportAllSays t owner before r k
    → ReportAllSays t owner before s l → (r ≡ s) × (k ≡ l)
report_all_once t owner before r s k l p q = (same_part (λ (o : Reporting). o.answer) p q, same_part (λ (o : Reporting). o.lists) p q)
