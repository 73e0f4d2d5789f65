-- E9 and E10, what binding answers of tables near them, and holes that pass their anchor twice.
use Rattle.std.specs.Prelude.{◌≡◌, refl, true, false, List, [], ◌∷◌, ◌++◌, ℤ, pos}
use Rattle.laws.specs.Lists.{tabulate}
use Rattle.laws.specs.Lowest.{lowest}
use Rattle.laws.specs.Count.{count}
use Rattle.table.specs.Table.{Table, table, dropped_owner}
use Rattle.table.specs.TableChecks.{table_checked}
use Rattle.table.specs.Examples.{e9, e10, e10_one, no_hull}
use Rattle.anchor.specs.Anchor.{lowest_end}
use Rattle.anchor.specs.AnchorChecks.{hole_before, anchors_checked}
use Rattle.edges.specs.Edges.{lies_under, wins_tie, nearer}
use Rattle.candidates.specs.Candidates.{edge}
use Rattle.nearest.specs.Search.{kept, offered, keep, nearest, contour_under}
use Rattle.order.specs.HoleOrder.{slot, inserted, sorted, holes_below}
use Rattle.owners.specs.Owners.{give_each, owners_of}
use Rattle.bind.specs.Outcome.{bound_to, outcome, bound}
use Rattle.turn.specs.Refusals.{refused}
use Rattle.turn.specs.declared.Reason.TheVariants.{WrongTable, WrongAnchor, NoParent}

-- "both holes get shape 1, the second through the first"; the buffer's tail is kept
pub e9_bound : bound e9 false (7 ∷ 7 ∷ 7 ∷ 7 ∷ 7 ∷ []) ≡ outcome (bound_to 2 0) (0 ∷ 1 ∷ 1 ∷ 1 ∷ 7 ∷ [])
unfolding table_checked anchors_checked lowest count hole_before lies_under wins_tie nearer edge kept offered keep nearest contour_under slot inserted
    sorted holes_below tabulate give_each owners_of
e9_bound = refl

-- "12 at 3": the buffer stays
pub e10_bound : bound e10 false (7 ∷ 7 ∷ 7 ∷ 7 ∷ []) ≡ outcome (refused NoParent 3) (7 ∷ 7 ∷ 7 ∷ 7 ∷ [])
unfolding table_checked anchors_checked lowest count hole_before lies_under wins_tie nearer edge kept offered keep nearest contour_under slot inserted
    sorted holes_below tabulate give_each owners_of
e10_bound = refl

-- "With only the first hull lent, both get 0."
pub e10_one_lem : bound e10_one false (7 ∷ 7 ∷ 7 ∷ []) ≡ outcome (bound_to 1 0) (0 ∷ 0 ∷ 0 ∷ [])
unfolding table_checked anchors_checked lowest count hole_before owners_of
e10_one_lem = refl

-- with no hull both are dropped
none_bound : bound no_hull false (7 ∷ 7 ∷ 7 ∷ []) ≡ outcome (bound_to 0 2) (dropped_owner ∷ dropped_owner ∷ 7 ∷ [])
unfolding table_checked anchors_checked lowest count hole_before owners_of
none_bound = refl

-- 10: room for three owners; 11: clockwise output has its anchors at point 1
cramped : bound e9 false (7 ∷ 7 ∷ 7 ∷ []) ≡ outcome (refused WrongTable 0) (7 ∷ 7 ∷ 7 ∷ [])
unfolding table_checked
cramped = refl

turned : bound e9 true (7 ∷ 7 ∷ 7 ∷ 7 ∷ []) ≡ outcome (refused WrongAnchor 2) (7 ∷ 7 ∷ 7 ∷ 7 ∷ [])
unfolding table_checked anchors_checked lowest hole_before
turned = refl

-- ---- E9 walked the other way, for clockwise output: anchors at point 1
e9_clockwise : Table
e9_clockwise =
    table
    ((pos 0 ∷ pos 0 ∷ pos 0 ∷ pos 10 ∷ pos 10 ∷ pos 10 ∷ pos 10 ∷ pos 0 ∷ [])
    ++ (pos 20 ∷ pos 0 ∷ pos 20 ∷ pos 20 ∷ pos 30 ∷ pos 20 ∷ pos 30 ∷ pos 0 ∷ [])
    ++ (pos 22 ∷ pos 8 ∷ pos 22 ∷ pos 2 ∷ pos 28 ∷ pos 2 ∷ pos 28 ∷ pos 8 ∷ [])
    ++ (pos 23 ∷ pos 14 ∷ pos 23 ∷ pos 10 ∷ pos 27 ∷ pos 10 ∷ pos 27 ∷ pos 14 ∷ []))
    (0 ∷ 4 ∷ 8 ∷ 12 ∷ []) (4 ∷ 4 ∷ 4 ∷ 4 ∷ []) (0 ∷ 0 ∷ 1 ∷ 1 ∷ [])

e9_clockwise_lem : bound e9_clockwise true (7 ∷ 7 ∷ 7 ∷ 7 ∷ []) ≡ outcome (bound_to 2 0) (0 ∷ 1 ∷ 1 ∷ 1 ∷ [])
unfolding e9_clockwise table_checked anchors_checked lowest count hole_before lies_under wins_tie nearer edge kept offered keep nearest contour_under slot
    inserted sorted holes_below tabulate give_each owners_of
e9_clockwise_lem = refl

-- ---- "A hole touching its island" [02, b]: a filled island touches the hole's leftmost point, (4, 10), and there is another
-- patch. The anchor edge is the hole's lowest there, to (10, 4), so that none of its own lies under: the hull's lower side does.
abbrev hull_one : List ℤ
hull_one = pos 0 ∷ pos 20 ∷ pos 0 ∷ pos 0 ∷ pos 20 ∷ pos 0 ∷ pos 20 ∷ pos 20 ∷ []

abbrev touched_hole : List ℤ
touched_hole =
    pos 4 ∷ pos 10 ∷ pos 10 ∷ pos 16 ∷ pos 16 ∷ pos 10 ∷ pos 10 ∷ pos 4 ∷ pos 4 ∷ pos 10 ∷ pos 8 ∷ pos 8 ∷ pos 8 ∷ pos 12 ∷ []

abbrev hull_two : List ℤ
hull_two = pos 30 ∷ pos 10 ∷ pos 30 ∷ pos 0 ∷ pos 40 ∷ pos 0 ∷ pos 40 ∷ pos 10 ∷ []

touched : bound (table (hull_one ++ (touched_hole ++ hull_two)) (0 ∷ 4 ∷ 11 ∷ []) (4 ∷ 7 ∷ 4 ∷ []) (0 ∷ 1 ∷ 0 ∷ [])) false (7 ∷ 7 ∷ 7 ∷ [])
    ≡ outcome (bound_to 2 0) (0 ∷ 0 ∷ 1 ∷ [])
unfolding table_checked anchors_checked lowest count hole_before lowest_end lies_under wins_tie nearer edge kept offered keep nearest contour_under slot
    inserted
    sorted holes_below tabulate give_each owners_of
touched = refl

-- With a hole in that island, from the same point to (7, 11) and (7, 9), which lies over the island's edge to (8, 8): the
-- other hole goes first by the angles of the anchor edges, and this one gets its parent.
abbrev pond : List ℤ
pond = pos 4 ∷ pos 10 ∷ pos 7 ∷ pos 11 ∷ pos 7 ∷ pos 9 ∷ []

touched_twice : bound (table (hull_two ++ (pond ++ (touched_hole ++ hull_one))) (0 ∷ 4 ∷ 7 ∷ 14 ∷ []) (4 ∷ 3 ∷ 7 ∷ 4 ∷ []) (0 ∷ 1 ∷ 1 ∷ 0 ∷ [])) false
    (7 ∷ 7 ∷ 7 ∷ 7 ∷ []) ≡ outcome (bound_to 2 0) (0 ∷ 1 ∷ 1 ∷ 1 ∷ [])
unfolding table_checked anchors_checked lowest count hole_before lowest_end lies_under wins_tie nearer edge kept offered keep nearest contour_under slot
    inserted
    sorted holes_below tabulate give_each owners_of
touched_twice = refl
