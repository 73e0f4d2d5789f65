-- `format_numbers::u64_at` meets its contract.
use Rattle.std.proofs.Common.{arith, add_assoc}
use Rattle.format_numbers.specs.Bytes.{u16_at, u32_at, u64_at}
use Rattle.format_numbers.proofs.u64_at.Goals as goal

pub returns : goal.returns
unfolding u16_at u32_at u64_at
returns c = simp add_assoc (omega arith)
