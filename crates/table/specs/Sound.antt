-- What a table that passes checks 10 and 11 is, in plain facts.
use Rattle.std.specs.Prelude.{ℕ, ◌+◌, ◌*◌, ◌≤◌, ◌<◌, ◌≡◌, true, length}
use Rattle.turn.specs.Limits.{max_links}
use Rattle.turn.specs.Points.{differ, Grid}
use Rattle.table.specs.Table.{Table, point_count, point, contour_count, first_of, len_of, range_end, kind_of, next}
use Rattle.table.specs.TableChecks.{start_in}

-- check 10, but for the room for owners
pub record Sound (t : Table) : Type 0 where
  pub len_long : length t.len ≡ contour_count t
  pub kind_long : length t.kind ≡ contour_count t
  -- every x has its y, and there are at most 4,096 points
  pub whole : length t.points ≡ point_count t * 2
  pub few : point_count t ≤ max_links
  -- the ranges follow each other from 0 to the point count
  pub starts : 0 < contour_count t → first_of t 0 ≡ 0
  pub follows : (c : ℕ) → c + 1 < contour_count t → first_of t (c + 1) ≡ range_end t c
  pub ends : start_in t.first t.len (contour_count t) ≡ point_count t
  pub within : (c : ℕ) → c < contour_count t → range_end t c ≤ point_count t
  pub long : (c : ℕ) → c < contour_count t → 3 ≤ len_of t c
  pub kinds : (c : ℕ) → c < contour_count t → kind_of t c ≤ 1
  pub grid : Grid t.points
  -- round every contour neighbours differ
  pub neighbours : (c p : ℕ) → c < contour_count t → first_of t c ≤ p → p < range_end t c → differ (point t p) (point t (next t c p)) ≡ true
