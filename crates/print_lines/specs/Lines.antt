-- The lines of the program's answer.
use Rattle.std.specs.Prelude.{ℕ, List, ◌++◌, eqb, ℤ}
use Rattle.laws.specs.Test.{pick}
use Rattle.table.specs.Table.{dropped_owner}
use Rattle.print_text.specs.Text.{text}
use Rattle.print_text.specs.Decimal.{decimal, decimal_z, said}
use Rattle.print_lines.specs.declared.Totals.{Totals}

-- `contours 1 shapes 1 points 4 dropped 0`
unfoldable pub header : Totals → List ℕ
header t =
    said (text "contours ") t.contours
    ++ (said (text " shapes ") t.shapes ++ (said (text " points ") t.points ++ (said (text " dropped ") t.dropped ++ text "\n")))

-- kind 0 is a hull, 1 a hole; "a dropped hole's" owner is 65,535
abbrev pub role_text : ℕ → ℕ → List ℕ
role_text kind owner = pick (eqb kind 0) (text " hull ") (pick (eqb owner dropped_owner) (text " dropped ") (text " hole "))

-- `0 hull 0 4`, `1 hole 0 4`, `1 dropped 65535 4`
unfoldable pub contour_line : ℕ → ℕ → ℕ → ℕ → List ℕ
contour_line number kind owner len = decimal number ++ (said (role_text kind owner) owner ++ (said (text " ") len ++ text "\n"))

-- a point's `0 4`
unfoldable pub point_line : ℤ → ℤ → List ℕ
point_line x y = decimal_z x ++ (text " " ++ (decimal_z y ++ text "\n"))
