-- Points, their order, vectors between them, and the turn of three points.
use Rattle.std.specs.Prelude.{ℕ, ◌+◌, ◌*◌, ◌≤◌, ◌<◌, List, length, get_or, Bool, not, ◌&&◌, ◌||◌, ℤ, pos, neg_ℤ, nat_abs, ◌+ℤ◌, ◌-ℤ◌, ◌*ℤ◌}
use Rattle.std.specs.Int.Signed.{lt_z}
use Rattle.turn.specs.declared.Point.{Point}
use Rattle.turn.specs.declared.Vector.{Vector}
use Rattle.turn.specs.Limits.{max_coordinate}

-- "Points are ordered by x, then y": p is strictly before q
abbrev pub before : Point → Point → Bool
before p q = lt_z p.x q.x || (not (lt_z q.x p.x) && lt_z p.y q.y)

-- two points differ
abbrev pub differ : Point → Point → Bool
differ p q = before p q || before q p

-- a coordinate outside -524,288 to 524,288
abbrev pub outside : ℤ → Bool
outside z = lt_z z (neg_ℤ (pos max_coordinate)) || lt_z (pos max_coordinate) z

-- a point with such a coordinate
abbrev pub off_grid : Point → Bool
off_grid p = outside p.x || outside p.y

-- a coordinate, a point, within the bounds
abbrev pub Coord : ℤ → Type 0
Coord z = nat_abs z ≤ max_coordinate

abbrev pub OnGrid : Point → Type 0
OnGrid p = (Coord p.x) × (Coord p.y)

-- the vector from p to q
abbrev pub from_to : Point → Point → Vector
from_to p q = record { x = q.x -ℤ p.x; y = q.y -ℤ p.y }

-- how far two coordinates within the bounds can lie apart
abbrev pub span : ℕ
span = max_coordinate + max_coordinate

-- a vector no longer, in x and in y, than one between two points within the bounds
abbrev pub Short : Vector → Type 0
Short v = (nat_abs v.x ≤ span) × (nat_abs v.y ≤ span)

-- what the cross and the dot product of two such vectors stay within
abbrev pub product_bound : ℕ
product_bound = 2 * (span * span)

-- every number of a list is a coordinate within the bounds
abbrev pub Grid : List ℤ → Type 0
Grid l = (i : ℕ) → i < length l → Coord (get_or l i (pos 0))

abbrev pub cross : Vector → Vector → ℤ
cross u v = u.x *ℤ v.y -ℤ u.y *ℤ v.x

abbrev pub dot : Vector → Vector → ℤ
dot u v = u.x *ℤ v.x +ℤ u.y *ℤ v.y

-- "Turning is judged with y upward, by exact cross products": above 0 where a, b, c turn counterclockwise
abbrev pub turn : Point → Point → Point → ℤ
turn a b c = cross (from_to a b) (from_to a c)

-- a, b, c turn strictly clockwise
abbrev pub clockwise : Point → Point → Point → Bool
clockwise a b c = lt_z (turn a b c) (pos 0)
