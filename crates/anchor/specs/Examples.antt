-- Check 11 and an anchor edge of the tables of E9 and E10; anchor edges of holes that pass their anchor more than once.
use Rattle.std.specs.Prelude.{◌≡◌, refl, true, false, ◌/◌, List, [], ◌∷◌, ◌++◌, ℤ, pos, length}
use Rattle.laws.specs.Lowest.{lowest}
use Rattle.turn.specs.declared.Point.{Point}
use Rattle.table.specs.Table.{Table, table}
use Rattle.table.specs.TableChecks.{table_checked}
use Rattle.table.specs.Examples.{first_hole, far_hole, e9, e10}
use Rattle.anchor.specs.declared.Anchor.{Anchor}
use Rattle.anchor.specs.AnchorChecks.{hole_before, anchors_checked, both_checked}
use Rattle.anchor.specs.Anchor.{lowest_end, anchor_edge}
use Rattle.turn.specs.Refusals.{refused, no_fault}
use Rattle.turn.specs.declared.Reason.TheVariants.{WrongAnchor}

-- ---- checks 10 and 11
e9_fine : both_checked e9 4 false ≡ no_fault
unfolding table_checked anchors_checked lowest hole_before
e9_fine = refl

e10_fine : both_checked e10 4 false ≡ no_fault
unfolding table_checked anchors_checked lowest hole_before
e10_fine = refl

-- clockwise output has its anchors at point 1, which is not the least point of these holes
e9_clockwise_lem : both_checked e9 4 true ≡ refused WrongAnchor 2
unfolding table_checked anchors_checked lowest hole_before
e9_clockwise_lem = refl

-- the holes the other way round: the second anchor is before the first
swapped : both_checked (table (far_hole ++ first_hole) (0 ∷ 4 ∷ []) (4 ∷ 4 ∷ []) (1 ∷ 1 ∷ [])) 2 false ≡ refused WrongAnchor 1
unfolding table_checked anchors_checked lowest hole_before
swapped = refl

-- the same hole twice: equal anchors are in order
equal : both_checked (table (far_hole ++ far_hole) (0 ∷ 4 ∷ []) (4 ∷ 4 ∷ []) (1 ∷ 1 ∷ [])) 2 false ≡ no_fault
unfolding table_checked anchors_checked lowest hole_before
equal = refl

-- ---- anchor edges: of the two edges from (22, 2), to (22, 8) and to (28, 2), the lower is the second
e9_edge : anchor_edge e9 false 2 ≡ record { at = record { x = pos 22; y = pos 2 }; to = record { x = pos 28; y = pos 2 } }
unfolding lowest_end
e9_edge = refl

-- ---- a hole that passes its anchor (4, 10) more than once, since islands touch it there. It is the only contour.
alone : List ℤ → Table
alone points = table points (0 ∷ []) (length points / 2 ∷ []) (1 ∷ [])

abbrev lowest_at : Point → Anchor
lowest_at p = record { at = record { x = pos 4; y = pos 10 }; to = p }

-- twice: the edges at point 0 go to (10, 16) and to (8, 11), those of the second visit to (10, 4) and to (8, 9)
twice : anchor_edge (alone (pos 4 ∷ pos 10 ∷ pos 10 ∷ pos 16 ∷ pos 16 ∷ pos 10 ∷ pos 10 ∷ pos 4
    ∷ pos 4 ∷ pos 10 ∷ pos 8 ∷ pos 9 ∷ pos 8 ∷ pos 11 ∷ [])) false 0 ≡ lowest_at (record { x = pos 10; y = pos 4 })
unfolding alone lowest_end
twice = refl

-- the same for clockwise output, whose anchor is point 1
twice_clockwise : anchor_edge (alone (pos 10 ∷ pos 16 ∷ pos 4 ∷ pos 10 ∷ pos 8 ∷ pos 11 ∷ pos 8 ∷ pos 9
    ∷ pos 4 ∷ pos 10 ∷ pos 10 ∷ pos 4 ∷ pos 16 ∷ pos 10 ∷ [])) true 0 ≡ lowest_at (record { x = pos 10; y = pos 4 })
unfolding alone lowest_end
twice_clockwise = refl

-- three times, the lowest edge at the last visit and the one onward there
thrice : anchor_edge (alone (pos 4 ∷ pos 10 ∷ pos 8 ∷ pos 11 ∷ pos 8 ∷ pos 12 ∷ pos 4 ∷ pos 10 ∷ pos 8 ∷ pos 13 ∷ pos 8 ∷ pos 14
    ∷ pos 4 ∷ pos 10 ∷ pos 8 ∷ pos 6 ∷ pos 8 ∷ pos 7 ∷ [])) false 0 ≡ lowest_at (record { x = pos 8; y = pos 6 })
unfolding alone lowest_end
thrice = refl

-- four times, the lowest edge at the second visit and the one back there
four_times : anchor_edge (alone (pos 4 ∷ pos 10 ∷ pos 10 ∷ pos 16 ∷ pos 16 ∷ pos 10 ∷ pos 10 ∷ pos 4 ∷ pos 4 ∷ pos 10 ∷ pos 9 ∷ pos 6 ∷ pos 9 ∷ pos 7
    ∷ pos 4 ∷ pos 10 ∷ pos 8 ∷ pos 9 ∷ pos 8 ∷ pos 11 ∷ pos 4 ∷ pos 10 ∷ pos 9 ∷ pos 13 ∷ pos 9 ∷ pos 14 ∷ [])) false 0
    ≡ lowest_at (record { x = pos 10; y = pos 4 })
unfolding alone lowest_end
four_times = refl
