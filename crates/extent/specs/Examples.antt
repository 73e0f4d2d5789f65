-- Extents of contours of document 01's examples, and of points on both sides of 0.
use Rattle.std.specs.Prelude.{◌≡◌, refl, [], ◌∷◌, pos, negsuc}
use Rattle.turn.specs.Area.{points_of}
use Rattle.table.specs.Examples.{second_hull, far_hole}
use Rattle.extent.specs.Extent.{extent_of}

-- E9's second hull
second_hull_lem : extent_of (points_of second_hull) ≡ record { left = pos 20; bottom = pos 0; right = pos 30; top = pos 20 }
second_hull_lem = refl

-- E10's far hole
far_hole_lem : extent_of (points_of far_hole) ≡ record { left = pos 40; bottom = pos 2; right = pos 46; top = pos 8 }
far_hole_lem = refl

-- the greatest may be below 0, and the first point on no edge
below_zero : extent_of (points_of (negsuc 4 ∷ negsuc 4 ∷ negsuc 9 ∷ negsuc 2 ∷ negsuc 1 ∷ negsuc 5 ∷ negsuc 3 ∷ negsuc 8 ∷ []))
    ≡ record { left = negsuc 9; bottom = negsuc 8; right = negsuc 1; top = negsuc 2 }
below_zero = refl
