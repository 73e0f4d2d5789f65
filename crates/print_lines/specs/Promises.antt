-- What each public function promises, written once: its contract names it, and any two outcomes that it allows are equal, answer and buffer.
use Rattle.std.specs.Prelude.{ℕ, List}
use Rattle.writing.specs.Write.{Wrote}
use Rattle.writing.specs.Promises.{WritesOnce, wrote_once}
use Rattle.print_lines.specs.Lines.{header}
use Rattle.print_lines.specs.declared.Totals.{Totals}

abbrev pub WriteHeaderSays : Totals → List ℕ → List ℕ → ℕ → Type 0
WriteHeaderSays t old new r = Wrote old new 0 r (header t)

pub write_header_once : (t : Totals) (old : List ℕ) → WritesOnce (WriteHeaderSays t old)
write_header_once t old = wrote_once old 0 (header t)
