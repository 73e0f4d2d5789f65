-- `spread`: number by number.
use Rattle.std.proofs.Common.{◌≡◌, ℤ, arith}
use Rattle.std.proofs.lemmas.Int.{ints, to_z-of_z}
use Rattle.std.specs.Int.{int_max}
use Rattle.extent.specs.Extent.{greater}
use Rattle.extent.proofs.spread.Goals as goal

-- of two equal numbers the one and the other
greatest : (a b : ℤ) → int_max a b ≡ greater a b
greatest a b = grind (arith, ints)

pub returns : goal.returns
returns c = grind (arith, to_z-of_z, greatest)
