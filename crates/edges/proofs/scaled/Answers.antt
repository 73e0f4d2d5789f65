-- `scaled`: the product fits, as `gap_fits` says.
use native.Mathlib.Omega.{arith}
use mathlib.Core.Path.{refl}
use lib.IntN.{◌*ℤ◌}
use Rattle.laws.specs.Bounds.{same64, fits64}
use Rattle.edges.specs.Gaps.{gap_fits}
use Rattle.edges.proofs.scaled.Goals as goal

pub overflow_mul-result : goal.overflow_mul-result
overflow_mul-result c =
    let a = c.args in let b = gap_fits a.h a.run c.requires.0 c.requires.1 in
    rw (same64 a.h (omega arith), same64 a.run (omega arith)) (fits64 _ (omega arith))

pub returns : goal.returns
returns c =
    let a = c.args in let b = gap_fits a.h a.run c.requires.0 c.requires.1 in
    rw (same64 a.h (omega arith), same64 a.run (omega arith), same64 (a.h *ℤ a.run) (omega arith)) (refl, b)
