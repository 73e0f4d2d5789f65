-- The contour tables of E9 and E10, and what check 10 says of them and of tables with a fault.
use Rattle.std.specs.Prelude.{◌≡◌, refl, List, [], ◌∷◌, ◌++◌, ℤ, pos, negsuc}
use Rattle.laws.specs.Lowest.{lowest}
use Rattle.table.specs.Table.{Table, table}
use Rattle.table.specs.TableChecks.{table_checked}
use Rattle.turn.specs.Refusals.{refused, no_fault}
use Rattle.turn.specs.declared.Reason.TheVariants.{WrongTable}

-- ---- the contours of E9 and E10
abbrev pub first_hull : List ℤ
first_hull = pos 0 ∷ pos 10 ∷ pos 0 ∷ pos 0 ∷ pos 10 ∷ pos 0 ∷ pos 10 ∷ pos 10 ∷ []

abbrev pub second_hull : List ℤ
second_hull = pos 20 ∷ pos 20 ∷ pos 20 ∷ pos 0 ∷ pos 30 ∷ pos 0 ∷ pos 30 ∷ pos 20 ∷ []

abbrev pub first_hole : List ℤ
first_hole = pos 22 ∷ pos 2 ∷ pos 22 ∷ pos 8 ∷ pos 28 ∷ pos 8 ∷ pos 28 ∷ pos 2 ∷ []

abbrev pub second_hole : List ℤ
second_hole = pos 23 ∷ pos 10 ∷ pos 23 ∷ pos 14 ∷ pos 27 ∷ pos 14 ∷ pos 27 ∷ pos 10 ∷ []

abbrev pub far_hole : List ℤ
far_hole = pos 40 ∷ pos 2 ∷ pos 40 ∷ pos 8 ∷ pos 46 ∷ pos 8 ∷ pos 46 ∷ pos 2 ∷ []

abbrev pub e9 : Table
e9 = table (first_hull ++ second_hull ++ first_hole ++ second_hole) (0 ∷ 4 ∷ 8 ∷ 12 ∷ []) (4 ∷ 4 ∷ 4 ∷ 4 ∷ []) (0 ∷ 0 ∷ 1 ∷ 1 ∷ [])

abbrev pub e10 : Table
e10 = table (first_hull ++ second_hull ++ first_hole ++ far_hole) (0 ∷ 4 ∷ 8 ∷ 12 ∷ []) (4 ∷ 4 ∷ 4 ∷ 4 ∷ []) (0 ∷ 0 ∷ 1 ∷ 1 ∷ [])

-- E10 "with only the first hull lent"
abbrev pub e10_one : Table
e10_one = table (first_hull ++ first_hole ++ far_hole) (0 ∷ 4 ∷ 8 ∷ []) (4 ∷ 4 ∷ 4 ∷ []) (0 ∷ 1 ∷ 1 ∷ [])

-- its two holes with no hull at all
abbrev pub no_hull : Table
no_hull = table (first_hole ++ far_hole) (0 ∷ 4 ∷ []) (4 ∷ 4 ∷ []) (1 ∷ 1 ∷ [])

e9_cramped : table_checked e9 3 ≡ refused WrongTable 0
unfolding table_checked lowest
e9_cramped = refl

-- the last point equal to the first: neighbours round the contour
closed : table_checked (table (first_hull ++ (pos 1 ∷ pos 1 ∷ pos 3 ∷ pos 1 ∷ pos 2 ∷ pos 2 ∷ pos 1 ∷ pos 1 ∷ [])) (0 ∷ 4 ∷ []) (4 ∷ 4 ∷ [])
    (0 ∷ 0 ∷ [])) 2 ≡ refused WrongTable 1
unfolding table_checked lowest
closed = refl

outside : table_checked (table (negsuc 524287 ∷ pos 524288 ∷ pos 0 ∷ pos 0 ∷ pos 524289 ∷ pos 0 ∷ []) (0 ∷ []) (3 ∷ []) (0 ∷ [])) 1 ≡ refused WrongTable 0
unfolding table_checked lowest
outside = refl

at_the_bounds : table_checked (table (negsuc 524287 ∷ pos 524288 ∷ pos 0 ∷ pos 0 ∷ pos 524288 ∷ pos 0 ∷ []) (0 ∷ []) (3 ∷ []) (0 ∷ [])) 1 ≡ no_fault
unfolding table_checked lowest
at_the_bounds = refl

no_contour : table_checked (table [] [] [] []) 0 ≡ no_fault
unfolding table_checked lowest
no_contour = refl

points_without_contour : table_checked (table first_hull [] [] []) 0 ≡ refused WrongTable 0
unfolding table_checked lowest
points_without_contour = refl
