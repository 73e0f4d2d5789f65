-- A hole's anchor and its anchor edge.
use Rattle.std.specs.Prelude.{ℕ, zero, suc, ◌+◌, ◌-◌, Bool, List, ℤ}
use Rattle.laws.specs.Test.{pick}
use Rattle.turn.specs.declared.Point.{Point}
use Rattle.turn.specs.Points.{clockwise, differ, from_to}
use Rattle.turn.specs.declared.Vector.{Vector}
use Rattle.table.specs.Table.{Table, point_in, first_of, range_end, next_in, previous_in}
use Rattle.anchor.specs.declared.Anchor.{Anchor}

-- "contour point 1 for clockwise output, else point 0", of a contour whose first point stands at a position
abbrev pub anchor_position_in : ℕ → Bool → ℕ
anchor_position_in from cw = from + pick cw 1 0

abbrev pub anchor_point_in : List ℤ → ℕ → Bool → Point
anchor_point_in points from cw = point_in points (anchor_position_in from cw)

abbrev pub anchor_position : Table → Bool → ℕ → ℕ
anchor_position t cw c = anchor_position_in (first_of t c) cw

abbrev pub anchor_point : Table → Bool → ℕ → Point
anchor_point t cw c = anchor_point_in t.points (first_of t c) cw

-- Of the edges from `at` to p and to q the lower one's other end: q where it is strictly clockwise of p, seen from `at`.
-- Every rule of binding reads an anchor edge's direction alone. Where neither is clockwise of the other, both have one
-- direction (`at` is the contour's least point), and p stands for both.
abbrev pub lower_end : Point → Point → Point → Point
lower_end at p q = pick (clockwise at p q) q p

-- ---- "takes all edges at the anchor point and keeps the lowest" [02, b], of a contour that stands from a position up to another
-- the lowest so far, which goes to b, beside both edges at position p
abbrev pub lowest_there : List ℤ → (from to : ℕ) → Point → ℕ → Point → Point
lowest_there points from to at p b = lower_end at (lower_end at b (point_in points (next_in from to p))) (point_in points (previous_in from to p))

-- these count where the contour passes the point `at` there
abbrev pub lowest_with : List ℤ → (from to : ℕ) → Point → ℕ → Point → Point
lowest_with points from to at p b = pick (differ (point_in points p) at) b (lowest_there points from to at p b)

-- the first n positions in turn
unfoldable pub lowest_end : List ℤ → (from to : ℕ) → Point → Point → ℕ → Point
lowest_end points from to at b zero = b
lowest_end points from to at b (suc n) = lowest_with points from to at (from + n) (lowest_end points from to at b n)

-- all positions, and the point at position p, which is one of them: its own edge onward is the first that counts
abbrev pub lowest_edge : List ℤ → ℕ → ℕ → ℕ → Anchor
lowest_edge points from to p =
    record { at = point_in points p; to = lowest_end points from to (point_in points p) (point_in points (next_in from to p)) (to - from) }

-- the anchor edge of the contour that stands from a position up to another
abbrev pub anchor_edge_in : List ℤ → ℕ → ℕ → Bool → Anchor
anchor_edge_in points from to cw = lowest_edge points from to (anchor_position_in from cw)

abbrev pub anchor_edge : Table → Bool → ℕ → Anchor
anchor_edge t cw c = anchor_edge_in t.points (first_of t c) (range_end t c) cw

-- the way of the anchor edge
abbrev pub anchor_way : Anchor → Vector
anchor_way a = from_to a.at a.to
