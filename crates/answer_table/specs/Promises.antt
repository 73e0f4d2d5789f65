-- What the public function promises, written once: its contract names it, and any two outcomes that it allows are equal, answer and buffer.
use Rattle.std.specs.Prelude.{ℕ, Bool, List, Result}
use Rattle.table.specs.Table.{Table}
use Rattle.writing.specs.Write.{Wrote}
use Rattle.writing.specs.Promises.{WritesOnce, wrote_once}
use Rattle.answer_table.specs.ExtractionText.{extraction_text}
use Rattle.turn.specs.declared.NumberedRefusal.{NumberedRefusal}
use Rattle.keep.specs.declared.Counts.{Counts}

abbrev pub AnswerExtractionSays : Result Counts NumberedRefusal → Table → Bool → List ℕ → List ℕ → ℕ → Type 0
AnswerExtractionSays extraction t clockwise old new r = Wrote old new 0 r (extraction_text clockwise extraction t)

pub answer_extraction_once : (extraction : Result Counts NumberedRefusal) (t : Table) (clockwise : Bool) (old : List ℕ)
    → WritesOnce (AnswerExtractionSays extraction t clockwise old)
answer_extraction_once extraction t clockwise old = wrote_once old 0 (extraction_text clockwise extraction t)
