-- The loops over points and over contours: what is left to write is a line, or a contour's lines, and what is left after it.
use Prim.Native.Nat.{ℕ, suc, ◌+◌, ◌-◌, ◌*◌, ◌≤◌, ◌<◌}
use mathlib.Core.Path.{◌≡◌, ap, ◌∙◌, subst}
use mathlib.Core.List.{List, ◌++◌}
use native.Mathlib.Omega.{arith}
use lib.IntN.{ℤ, pos}
use lib.ListN.{get_or}
use mir.Syntax.{w32}
use mir.Val.{SFits}
use Rattle.print.specs.Answer.{OwnedTable, point_lines, contour_lines, contours_from}
use Rattle.print_lines.specs.Lines.{point_line}
use Rattle.writing.specs.Write.{Wrote, Unwritten, left_none}
use Rattle.print_lines.specs.Again.{again, same_line}

-- the line of point p
abbrev pub line_of : List ℤ → ℕ → List ℕ
line_of points p = point_line (again (get_or points (2 * p) (pos 0))) (again (get_or points (2 * p + 1) (pos 0)))

one_less : (i end : ℕ) → i < end → end - i ≡ suc (end - (i + 1))
one_less i end l = omega arith

none_left : (i end : ℕ) → end ≤ i → end - i ≡ 0
none_left i end l = omega arith

-- of `whole`, what is left from point i on, up to `end`
module _ (points : List ℤ) (i end : ℕ) {old new whole : List ℕ} {at next : ℕ} (w : Unwritten old new at next (point_lines points i (end - i)) whole) where
  pub point_left : i < end → SFits w32 (get_or points (2 * i) (pos 0)) → SFits w32 (get_or points (2 * i + 1) (pos 0))
      → Unwritten old new at next (line_of points i ++ point_lines points (i + 1) (end - (i + 1))) whole
  unfolding point_lines
  point_left l f g =
      subst (λ (t : List ℕ). Unwritten old new at next t whole)
      (ap (point_lines points i) (one_less i end l) ∙ ap (λ (t : List ℕ). t ++ point_lines points (i + 1) (end - (i + 1))) (same_line _ _ f g))
      w

  pub points_done : end ≤ i → Wrote old new at next whole
  unfolding point_lines
  points_done l = left_none (subst (λ n. Unwritten old new at next (point_lines points i n) whole) (none_left i end l) w)

-- and from contour i on
module _ (t : OwnedTable) (i end : ℕ) {old new whole : List ℕ} {at next : ℕ} (w : Unwritten old new at next (contours_from t i (end - i)) whole) where
  pub contour_left : i < end → Unwritten old new at next (contour_lines t i ++ contours_from t (i + 1) (end - (i + 1))) whole
  unfolding contours_from
  contour_left l = subst (λ n. Unwritten old new at next (contours_from t i n) whole) (one_less i end l) w

  pub contours_done : end ≤ i → Wrote old new at next whole
  unfolding contours_from
  contours_done l = left_none (subst (λ n. Unwritten old new at next (contours_from t i n) whole) (none_left i end l) w)
