-- `millimetres`: the bits of the divisor are those of 100.
use mir.Syntax.{w32}
use mir.ValLaws.{to_z-of_z}
use lib.Ieee.{of_bits, of_int}
use Rattle.millimetres.proofs.millimetres.Goals as goal

pub returns : goal.returns
unfolding of_bits of_int
returns c = rw (to_z-of_z w32 c.args.units c.ranges.units)
