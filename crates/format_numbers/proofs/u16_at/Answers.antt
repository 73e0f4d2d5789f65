-- `format_numbers::u16_at` meets its contract.
use Rattle.std.proofs.Common.{arith}
use Rattle.format_numbers.specs.Bytes.{u16_at}
use Rattle.format_numbers.proofs.u16_at.Goals as goal

pub returns : goal.returns
unfolding u16_at
returns c = omega arith
