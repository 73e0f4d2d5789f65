-- The signed doubled area of a closed run of points (rule 6).
use Rattle.std.specs.Prelude.{ℕ, ◌*◌, List, [], ◌∷◌, ℤ, pos, ◌+ℤ◌, ◌-ℤ◌, ◌*ℤ◌}
use Rattle.turn.specs.declared.Point.{Point}
use Rattle.turn.specs.Limits.{max_coordinate}

-- x·y' - y·x'
abbrev pub wedge : Point → Point → ℤ
wedge p q = p.x *ℤ q.y -ℤ p.y *ℤ q.x

-- what it stays within, for two points within the bounds
abbrev pub wedge_bound : ℕ
wedge_bound = 2 * (max_coordinate * max_coordinate)

-- the sum along a run of points and home to h
abbrev pub area_to : Point → List Point → ℤ
area_to h [] = pos 0
area_to h (p ∷ []) = wedge p h
area_to h (p ∷ (q ∷ l)) = wedge p q +ℤ area_to h (q ∷ l)

-- "The signed doubled area is the sum of x·y' - y·x' round the contour, positive when counterclockwise."
abbrev pub area : List Point → ℤ
area [] = pos 0
area (p ∷ l) = area_to p (p ∷ l)

-- points lent as x and y in turn; a last x without its y is no point
abbrev pub points_of : List ℤ → List Point
points_of [] = []
points_of (x ∷ []) = []
points_of (x ∷ (y ∷ l)) = record { x = x; y = y } ∷ points_of l
