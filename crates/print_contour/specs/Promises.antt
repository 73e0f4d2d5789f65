-- What each public function promises, written once: its contract names it, and any two outcomes that it allows are equal, answer and buffer.
use Rattle.std.specs.Prelude.{ℕ, List}
use Rattle.writing.specs.Write.{Wrote}
use Rattle.writing.specs.Promises.{WritesOnce, wrote_once}
use Rattle.print_lines.specs.Lines.{contour_line}

abbrev pub WriteContourLineSays : ℕ → ℕ → ℕ → ℕ → List ℕ → ℕ → List ℕ → ℕ → Type 0
WriteContourLineSays number kind owner len old at new r = Wrote old new at r (contour_line number kind owner len)

pub write_contour_line_once : (number kind owner len : ℕ) (old : List ℕ) (at : ℕ) → WritesOnce (WriteContourLineSays number kind owner len old at)
write_contour_line_once number kind owner len old at = wrote_once old at (contour_line number kind owner len)
