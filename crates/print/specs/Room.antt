-- The room that an answer takes, and what a table must be like to be printed.
use Rattle.std.specs.Prelude.{ℕ, ◌+◌, ◌*◌, ◌≤◌, ◌<◌, ◌≡◌, length, get_or}
use Rattle.turn.specs.Limits.{max_links}
use Rattle.turn.specs.Points.{Grid}
use Rattle.table.specs.Table.{max_contours}
use Rattle.print.specs.Answer.{OwnedTable}
use Rattle.print_lines.specs.declared.Totals.{Totals}

-- the first line, 24 bytes a contour's line and 16 a point's
abbrev pub answer_bytes : ℕ
answer_bytes = 51 + 24 * max_contours + 16 * max_links

abbrev pub refusal_bytes : ℕ
refusal_bytes = 43

-- the contours have all their columns, and their points lie within the points
pub record RangesInside (t : OwnedTable) (contours : ℕ) : Type 0 where
  pub first : contours ≤ length t.first
  pub len : contours ≤ length t.len
  pub kind : contours ≤ length t.kind
  pub owner : contours ≤ length t.owner
  pub points : (c : ℕ) → c < contours → 2 * (get_or t.first c 0 + get_or t.len c 0) ≤ length t.points

-- what may be printed: a table that passed check 10, with totals that are its own or less
pub record Printable (t : OwnedTable) (totals : Totals) : Type 0 where
  pub ranges : RangesInside t totals.contours
  pub follows : (c : ℕ) → c + 1 < totals.contours → get_or t.first (c + 1) 0 ≡ get_or t.first c 0 + get_or t.len c 0
  pub within : (c : ℕ) → c < totals.contours → get_or t.first c 0 + get_or t.len c 0 ≤ totals.points
  pub long : (c : ℕ) → c < totals.contours → 3 ≤ get_or t.len c 0
  pub few : totals.points ≤ max_links
  pub grid : Grid t.points
  pub shapes : totals.shapes ≤ totals.contours
  pub dropped : totals.dropped ≤ totals.contours
