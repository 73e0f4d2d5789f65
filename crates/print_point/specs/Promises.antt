-- What each public function promises, written once: its contract names it, and any two outcomes that it allows are equal, answer and buffer.
use Rattle.std.specs.Prelude.{ℕ, List, ℤ}
use Rattle.writing.specs.Write.{Wrote}
use Rattle.writing.specs.Promises.{WritesOnce, wrote_once}
use Rattle.print_lines.specs.Lines.{point_line}

abbrev pub WritePointSays : ℤ → ℤ → List ℕ → ℕ → List ℕ → ℕ → Type 0
WritePointSays x y old at new r = Wrote old new at r (point_line x y)

pub write_point_once : (x y : ℤ) (old : List ℕ) (at : ℕ) → WritesOnce (WritePointSays x y old at)
write_point_once x y old at = wrote_once old at (point_line x y)
