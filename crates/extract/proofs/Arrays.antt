-- The arrays that extraction works in: they are zero at first.
use Prim.Native.Nat.{ℕ, zero, suc}
use mathlib.Core.Path.{refl}
use lib.ListN.{replicate}
use Rattle.rings.specs.Field.{Unled}

-- nothing is written yet
pub unled : (n : ℕ) → Unled (replicate n 0)
unled zero k = refl
unled (suc n) zero = refl
unled (suc n) (suc k) = unled n k
