-- `square_millimetres`: up to 2^53 the cast loses nothing; the bits of the divisor are those of 20000.
use mir.Syntax.{w64}
use mir.ValLaws.{to_z-of_z}
use lib.Ieee.{of_bits, of_int}
use Rattle.millimetres.specs.Exact.{cast_asked}
use Rattle.millimetres.proofs.square_millimetres.Goals as goal

pub int_to_float-result : goal.int_to_float-result
int_to_float-result c = rw (to_z-of_z w64 c.args.doubled c.ranges.doubled) (cast_asked c.args.doubled c.requires)

pub returns : goal.returns
unfolding of_bits of_int
returns c = rw (to_z-of_z w64 c.args.doubled c.ranges.doubled)
