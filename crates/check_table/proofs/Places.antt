-- Which position comes before another round a contour, as the loops go.
use Prim.Native.Nat.{ℕ, ◌+◌, ◌-◌}
use mathlib.Core.Path.{◌≡◌, ap, ap₂, ◌∙◌}
use mathlib.Core.Bool.{Bool, not, ◌||◌}
use mathlib.Core.List.{List}
use native.Mathlib.Omega.{arith}
use lib.IntN.{ℤ}
use Rattle.turn.specs.declared.Point.{Point}
use Rattle.turn.specs.Points.{differ, off_grid}
use Rattle.table.specs.Table.{point_in, previous_in}
use Rattle.table.specs.TableLaws.{previous_inside}
use Rattle.table.specs.TableChecks.{point_fault}

-- the position before position from + k, a turn later
pub previous_later : (from to k : ℕ) → previous_in from to (from + (k + 1)) ≡ from + k
previous_later from to k = let e : from + (k + 1) - 1 ≡ from + k = omega arith in previous_inside from to (from + (k + 1)) (omega arith) ∙ e

-- what the loop over a contour's points tests at its turn k
module _ (points : List ℤ) (from to k : ℕ) (last here : Point) (p : last ≡ point_in points (previous_in from to (from + k)))
    (q : here ≡ point_in points (from + k)) where
  pub fault_at : (a b : Bool) → a ≡ off_grid here → b ≡ differ last here → a || not b ≡ point_fault points from to (from + k)
  fault_at a b e f = ap₂ (λ x y. x || not y) (e ∙ ap off_grid q) (f ∙ ap₂ differ p q)
