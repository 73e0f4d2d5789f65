-- An entry point's outcome, numbered: from what the callee leaves and from the numbers of its answer.
use Rattle.std.specs.Prelude.{Result}
use Prim.Native.Nat.{ℕ}
use mathlib.Core.Path.{◌≡◌, ap, ◌∙◌}
use mathlib.Core.List.{List}
use Rattle.extraction.specs.Extract.{Extracted, extracted_as}
use Rattle.finish.specs.Finish.{Buffers}
use Rattle.bind.specs.Outcome.{Outcome, outcome}
use Rattle.report_all.specs.Columns.{Columns, Reporting, reporting}
use Rattle.guovdamas.specs.declared.GuovdamasBinding.{GuovdamasBinding}
use Rattle.guovdamas.specs.declared.GuovdamasExtraction.{GuovdamasExtraction}
use Rattle.guovdamas.specs.declared.GuovdamasReports.{GuovdamasReports}
use Rattle.guovdamas.specs.Numbers.{extraction_of, extracting, numbered_extracted, binding_of, binding, numbered_bound, reports_of, fills, numbered_reports}
use Rattle.turn.specs.declared.Refusal.{Refusal}
use Rattle.keep.specs.declared.Counts.{Counts}
use Rattle.report_all.specs.declared.records.Filled.{Filled}
use Rattle.bind.specs.declared.Bound.{Bound}

pub extraction_numbered : {a : Result Counts Refusal} {r : GuovdamasExtraction} {b : Buffers} {e : Extracted}
    → r ≡ extraction_of a → extracted_as a b ≡ e → extracting r b ≡ numbered_extracted e
extraction_numbered {a} {r} {b} p q = ap (λ (x : GuovdamasExtraction). extracting x b) p ∙ ap numbered_extracted q

pub binding_numbered : {a : Result Bound Refusal} {r : GuovdamasBinding} {owner : List ℕ} {o : Outcome}
    → r ≡ binding_of a → outcome a owner ≡ o → binding r owner ≡ numbered_bound o
binding_numbered {a} {r} {owner} p q = ap (λ (x : GuovdamasBinding). binding x owner) p ∙ ap numbered_bound q

pub reports_numbered : {a : Result Filled Refusal} {r : GuovdamasReports} {k : Columns} {o : Reporting}
    → r ≡ reports_of a → reporting a k ≡ o → fills r k ≡ numbered_reports o
reports_numbered {a} {r} {k} p q = ap (λ (x : GuovdamasReports). fills x k) p ∙ ap numbered_reports q
