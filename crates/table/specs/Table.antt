-- The contour table as it is lent, and what its lists say of a point, of a contour and of the way round it.
use Rattle.std.specs.Prelude.{ℕ, ◌+◌, ◌*◌, ◌-◌, ◌/◌, Bool, List, eqb, ltb, ℤ, pos, length, get_or, take, drop}
use Rattle.laws.specs.Test.{pick}
use Rattle.laws.specs.Lowest.{lowest}
use Rattle.laws.specs.Count.{count}
use Rattle.turn.specs.declared.Point.{Point}
use Rattle.turn.specs.Limits.{max_links}
use Rattle.turn.specs.Area.{points_of}
use Rattle.table.specs.declared.Contours.{Contours}

-- The points of all contours, x and y in turn; at a number c the other lists have contour c's first point, how many
-- points it has, and its kind: 0 a hull, 1 a hole.
pub record Table : Type 0 where
  pub points : List ℤ
  pub first : List ℕ
  pub len : List ℕ
  pub kind : List ℕ

abbrev pub table : List ℤ → List ℕ → List ℕ → List ℕ → Table
table points first len kind = record { points = points; first = first; len = len; kind = kind }

-- what the code is lent
abbrev pub table_of : Contours → Table
table_of c = table c.points.now c.first.now c.len.now c.kind.now

-- ---- points, by their position in the list
abbrev pub point_in : List ℤ → ℕ → Point
point_in l p = record { x = get_or l (p * 2) (pos 0); y = get_or l (p * 2 + 1) (pos 0) }

abbrev pub point_count : Table → ℕ
point_count t = length t.points / 2

abbrev pub point : Table → ℕ → Point
point t p = point_in t.points p

-- ---- contours, by their number: contour c's points stand from `first_of t c` up to `range_end t c`
abbrev pub contour_count : Table → ℕ
contour_count t = length t.first

-- a contour has at least 3 points, and a table at most as many points as there are links
abbrev pub max_contours : ℕ
max_contours = max_links / 3

abbrev pub first_of : Table → ℕ → ℕ
first_of t c = get_or t.first c 0

abbrev pub len_of : Table → ℕ → ℕ
len_of t c = get_or t.len c 0

abbrev pub range_end : Table → ℕ → ℕ
range_end t c = first_of t c + len_of t c

abbrev pub kind_of : Table → ℕ → ℕ
kind_of t c = get_or t.kind c 0

-- a contour's points, in the order in which they stand
abbrev pub contour : Table → ℕ → List Point
contour t c = take (len_of t c) (drop (first_of t c) (points_of t.points))

-- the contour of the point at position p: the lowest that ends after it
abbrev pub contour_of : Table → ℕ → ℕ
contour_of t p = lowest (λ c. ltb p (range_end t c)) (contour_count t)

-- ---- round a contour: after the last point comes the first
abbrev pub next_in : ℕ → ℕ → ℕ → ℕ
next_in from to p = pick (eqb (p + 1) to) from (p + 1)

abbrev pub previous_in : ℕ → ℕ → ℕ → ℕ
previous_in from to p = pick (eqb p from) (to - 1) (p - 1)

abbrev pub next : Table → ℕ → ℕ → ℕ
next t c p = next_in (first_of t c) (range_end t c) p

abbrev pub previous : Table → ℕ → ℕ → ℕ
previous t c p = previous_in (first_of t c) (range_end t c) p

-- ---- hulls and holes

abbrev pub is_hole : Table → ℕ → Bool
is_hole t c = eqb (kind_of t c) 1

-- how many hulls a list of kinds has
abbrev pub hulls : List ℕ → ℕ
hulls kinds = count 0 kinds

abbrev pub hull_count : Table → ℕ
hull_count t = hulls t.kind

-- "its own shape number (hulls counted from 0)": how many hulls stand before contour c
abbrev pub shape_of : Table → ℕ → ℕ
shape_of t c = hulls (take c t.kind)

-- "a dropped hole's [owner is] 65,535"
abbrev pub dropped_owner : ℕ
dropped_owner = 65535
