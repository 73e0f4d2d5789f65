-- Points as the code reads them back from their bits.
use Rattle.std.specs.Prelude.{ℕ, ◌+◌, ◌≤◌, ◌≡◌, List, ℤ, length}
use Rattle.std.proofs.Common.{sym, ap₂, subst, SFits, to_z, of_z}
use Rattle.std.specs.Int.{w32}
use Rattle.std.proofs.lemmas.Int.{to_z-of_z}
use Rattle.writing.specs.Write.{Unwritten, left_all}
use Rattle.print_lines.specs.Lines.{point_line}

-- a number of 32 bits and back
abbrev pub again : ℤ → ℤ
again x = to_z w32 (of_z w32 x)

module _ (x y : ℤ) (f : SFits w32 x) (g : SFits w32 y) where
  pub same_line : point_line x y ≡ point_line (again x) (again y)
  same_line = ap₂ point_line (sym (to_z-of_z w32 x f)) (sym (to_z-of_z w32 y g))

  pub point_left : (old : List ℕ) (at : ℕ) → at + length (point_line x y) ≤ length old → Unwritten old old at at (point_line (again x) (again y))
      (point_line x y)
  point_left old at h = subst (λ (t : List ℕ). Unwritten old old at at t (point_line x y)) same_line (left_all old at (point_line x y) h)
