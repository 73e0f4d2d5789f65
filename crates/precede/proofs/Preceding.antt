-- The ways out of `goes_before`.
use Prim.Native.Nat.{ℕ, ◌≤◌}
use mathlib.Core.Path.{◌≡◌, ap, ◌∙◌}
use mathlib.Core.Bool.{true, false}
use native.Mathlib.Omega.{arith}
use lib.Dec.{ltb}
use lib.IntN.{ℤ, pos, nat_abs}
use Rattle.laws.specs.Bounds.{Z, same64}
use Rattle.laws.specs.Compare.{lower}
use Rattle.turn.specs.Points.{before, cross, product_bound}
use Rattle.anchor.specs.declared.Anchor.{Anchor}
use Rattle.anchor.specs.Anchor.{anchor_way}
use Rattle.precede.specs.Precedence.{goes_before}

module _ (a b : Anchor) (c d : ℕ) where
  pub goes_first : before a.at b.at ≡ true → true ≡ goes_before a b c d
  goes_first e = rw e

  pub goes_last : before a.at b.at ≡ false → before b.at a.at ≡ true → false ≡ goes_before a b c d
  goes_last e f = rw (e, f)

  pub goes_by_angle : before a.at b.at ≡ false → before b.at a.at ≡ false → (x : ℤ) → x ≡ cross (anchor_way a) (anchor_way b)
      → nat_abs x ≤ product_bound
      → lower (pos 0) (Z x) (ltb c d) ≡ goes_before a b c d
  goes_by_angle e f x q n = rw (e, f) (ap (λ z. lower (pos 0) z (ltb c d)) (same64 x (omega arith) ∙ q))
