-- What the program prints: the answer of both stages, or a refusal.
use Rattle.std.specs.Prelude.{ℕ, zero, suc, ◌+◌, ◌*◌, List, [], ◌++◌, ℤ, pos, get_or}
use Rattle.table.specs.declared.Contours.{Contours}
use Rattle.print_text.specs.Text.{text}
use Rattle.print_text.specs.Decimal.{said}
use Rattle.print_lines.specs.Lines.{header, contour_line, point_line}
use Rattle.print_lines.specs.declared.Totals.{Totals}

-- the contour table with its points (x, y in turn) and owners
pub record OwnedTable : Type 0 where
  pub points : List ℤ
  pub first : List ℕ
  pub len : List ℕ
  pub kind : List ℕ
  pub owner : List ℕ

abbrev pub owned_table : List ℤ → List ℕ → List ℕ → List ℕ → List ℕ → OwnedTable
owned_table points first len kind owner = record { points = points; first = first; len = len; kind = kind; owner = owner }

-- what the code is lent
abbrev pub owned_of : Contours → List ℕ → OwnedTable
owned_of c owner = owned_table c.points.now c.first.now c.len.now c.kind.now owner

-- count points from number p on, one a line
unfoldable pub point_lines : List ℤ → ℕ → ℕ → List ℕ
point_lines points p zero = []
point_lines points p (suc count) = point_line (get_or points (2 * p) (pos 0)) (get_or points (2 * p + 1) (pos 0)) ++ point_lines points (p + 1) count

abbrev pub contour_lines : OwnedTable → ℕ → List ℕ
contour_lines t i =
    contour_line i (get_or t.kind i 0) (get_or t.owner i 0) (get_or t.len i 0) ++ point_lines t.points (get_or t.first i 0) (get_or t.len i 0)

-- count contours from number i on
unfoldable pub contours_from : OwnedTable → ℕ → ℕ → List ℕ
contours_from t i zero = []
contours_from t i (suc count) = contour_lines t i ++ contours_from t (i + 1) count

-- the whole answer
abbrev pub printed : OwnedTable → Totals → List ℕ
printed t totals = header totals ++ contours_from t 0 totals.contours

-- "A program's refusal prints one line, as `refused 3 at 2`"
unfoldable pub printed_refusal : ℕ → ℕ → List ℕ
printed_refusal number place = said (text "refused ") number ++ (said (text " at ") place ++ text "\n")
