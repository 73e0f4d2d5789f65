-- What a table that passes check 11 is, in plain facts.
use Rattle.std.specs.Prelude.{ℕ, ◌+◌, ◌*◌, ◌≤◌, ◌<◌, ◌≡◌, List, ℤ, Bool, true, false, length, get_or}
use Rattle.turn.specs.Points.{before}
use Rattle.table.specs.Table.{Table, point, contour_count, first_of, range_end, is_hole}
use Rattle.anchor.specs.Anchor.{anchor_point}

-- every contour's first two points are within the points
abbrev pub Paired : List ℤ → List ℕ → Type 0
Paired points first = (c : ℕ) → c < length first → (get_or first c 0 + 2) * 2 ≤ length points

-- check 11, for an output direction
pub record Anchored (t : Table) (cw : Bool) : Type 0 where
  -- no point of a hole is before its anchor
  pub least : (c p : ℕ) → c < contour_count t → is_hole t c ≡ true → first_of t c ≤ p → p < range_end t c → before (point t p) (anchor_point t cw c) ≡ false
  -- the anchors are in the holes' order
  pub order : (c d : ℕ) → c < d → d < contour_count t → is_hole t c ≡ true → is_hole t d ≡ true → before (anchor_point t cw d) (anchor_point t cw c) ≡ false
