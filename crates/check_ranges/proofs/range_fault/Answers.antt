-- `range_fault`: its test is the definition's.
use mathlib.Core.Path.{refl}
use Rattle.check_ranges.proofs.range_fault.Goals as goal

pub returns : goal.returns
returns c = refl
