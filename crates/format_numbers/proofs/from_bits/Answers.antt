-- `format_numbers::from_bits` meets its contract: both read the bits as two's complement.
use mir.Syntax.{w32}
use Rattle.std.proofs.Common.{◌≡◌, ◌-◌, ◌∙◌, ℕ, suc, Bool, true, false, ltb, negsuc, refl, ap, arith, to_z, to_z-of_z}
use Rattle.format_numbers.specs.Bytes.{signed}
use Rattle.format_numbers.proofs.from_bits.Goals as goal

signed_bits : (x : ℕ) → to_z w32 x ≡ signed x
unfolding signed
signed_bits x = by (ltb x 2147483648) refl
  where
    high : 4294967296 - suc x ≡ 4294967295 - x
    high = omega arith

    by : (b : Bool) → ltb x 2147483648 ≡ b → to_z w32 x ≡ signed x
    by true e = rw e
    by false e = rw e (ap negsuc high)

pub returns : goal.returns
returns c = to_z-of_z {w = w32} (record { sfits = c.cast_signed.type_inv }) ∙ c.cast_signed.ensures ∙ signed_bits c.args.x
