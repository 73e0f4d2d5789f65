-- The contours of a table, read off its points and its sizes, and what the pass over them leaves.
use Rattle.std.specs.Prelude.{ℕ, zero, suc, ◌+◌, ◌*◌, ◌≤◌, ◌<◌, Bool, List, [], ◌∷◌, ◌++◌, map, length, get_or, ℤ}
use Rattle.laws.specs.Sign.{zer, sgn, eq_s}
use Rattle.turn.specs.declared.Point.{Point}
use Rattle.turn.specs.declared.Vector.{Vector}
use Rattle.turn.specs.Limits.{max_links}
use Rattle.turn.specs.Points.{OnGrid, cross}
use Rattle.keep.specs.Outcome.{sum}
use Rattle.table.specs.Table.{point_in}
use Rattle.straight.specs.Corners.{all_corners}

-- two edges, one after the other, lie on one line
abbrev pub level : Vector → Vector → Bool
level u v = eq_s (sgn (cross u v)) zer

-- so many points from number `from` on
abbrev pub run : List ℤ → ℕ → ℕ → List Point
run points from zero = []
run points from (suc n) = point_in points from ∷ run points (from + 1) n

abbrev pub RunOnGrid : List ℤ → ℕ → ℕ → Type 0
RunOnGrid points from n = (k : ℕ) → from ≤ k → k < from + n → OnGrid (point_in points k)

-- the sizes of so many contours from number c on
abbrev pub sizes_from : List ℕ → ℕ → ℕ → List ℕ
sizes_from len c zero = []
sizes_from len c (suc n) = get_or len c 0 ∷ sizes_from len (c + 1) n

-- contours of such sizes, one after the other from point number `at` on
abbrev pub contours_from : List ℤ → ℕ → List ℕ → List (List Point)
contours_from points at [] = []
contours_from points at (n ∷ ns) = run points at n ∷ contours_from points (at + n) ns

-- the first contours of a table
abbrev pub contours_of : List ℤ → List ℕ → ℕ → List (List Point)
contours_of points len contours = contours_from points 0 (sizes_from len 0 contours)

-- the corners of each; how many points each has; and the points of all
abbrev pub corners_of : List (List Point) → List (List Point)
corners_of = map all_corners

abbrev pub sizes : List (List Point) → List ℕ
sizes = map length

abbrev pub joined : List (List Point) → List Point
joined [] = []
joined (c ∷ cs) = c ++ joined cs

-- ---- what the pass asks for: contours with a point or more, on the grid, within the lists
abbrev pub Positive : List ℕ → Type 0
Positive [] = Unit {0}
Positive (n ∷ ns) = (0 < n) × Positive ns

pub record Stands (points : List ℤ) (first len : List ℕ) (contours : ℕ) : Type 0 where
  pub first_room : contours ≤ length first
  pub len_room : contours ≤ length len
  pub some : Positive (sizes_from len 0 contours)
  pub few : sum (sizes_from len 0 contours) ≤ max_links
  pub within : sum (sizes_from len 0 contours) * 2 ≤ length points
  pub grid : RunOnGrid points 0 (sum (sizes_from len 0 contours))
