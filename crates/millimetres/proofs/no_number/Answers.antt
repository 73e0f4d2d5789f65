-- `no_number`: 0 / 0 is none.
use mathlib.Core.Path.{refl}
use lib.Ieee.{of_bits, div}
use Rattle.millimetres.proofs.no_number.Goals as goal

pub returns : goal.returns
unfolding of_bits div
returns c = refl
