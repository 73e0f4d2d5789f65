-- What each public function promises, written once: its contract names it, and any two outcomes that it allows are equal, answer and buffer.
use Rattle.std.specs.Prelude.{ℕ, List}
use Rattle.writing.specs.Write.{Wrote}
use Rattle.writing.specs.Promises.{WritesOnce, wrote_once}
use Rattle.print_lines.specs.declared.Totals.{Totals}
use Rattle.print.specs.Answer.{OwnedTable, printed}

abbrev pub WriteAnswerSays : OwnedTable → Totals → List ℕ → List ℕ → ℕ → Type 0
WriteAnswerSays t totals old new r = Wrote old new 0 r (printed t totals)

pub write_answer_once : (t : OwnedTable) (totals : Totals) (old : List ℕ) → WritesOnce (WriteAnswerSays t totals old)
write_answer_once t totals old = wrote_once old 0 (printed t totals)
