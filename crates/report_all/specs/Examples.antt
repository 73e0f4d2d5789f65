-- E9's table at once, with two entries of room more than it needs: its second contour's owner is wrong, and only its entry tells.
use Rattle.std.specs.Prelude.{ℕ, ◌≡◌, refl, List, [], ◌∷◌, map, Float, true}
use Rattle.std.specs.Float.{inf, binary64}
use Rattle.std.specs.Float.Ieee.{div, of_int, to_bits}
use Rattle.laws.specs.Lowest.{lowest}
use Rattle.laws.specs.Count.{count, sum}
use Rattle.laws.specs.Lists.{tabulate}
use Rattle.table.specs.TableChecks.{table_checked}
use Rattle.table.specs.Examples.{e9}
use Rattle.lookup.specs.Lookups.{looked_up}
use Rattle.report.specs.Reports.{reported}
use Rattle.report_all.specs.Columns.{Columns, columns, filled, reported_all}
use Rattle.turn.specs.Refusals.{refused}
use Rattle.turn.specs.declared.Reason.TheVariants.{WrongTable}

-- what stands in a list before the call
abbrev soiled : List Float
soiled = inf true ∷ inf true ∷ inf true ∷ inf true ∷ inf true ∷ inf true ∷ []

abbrev lent : Columns
lent = columns soiled soiled soiled soiled soiled

abbrev bits : List Float → List ℕ
bits l = map (to_bits binary64) l

e9_answer : (reported_all e9 (0 ∷ 0 ∷ 1 ∷ 1 ∷ []) lent).answer ≡ filled 4 1
unfolding reported_all reported looked_up table_checked lowest count sum
e9_answer = refl

-- 0.01, none, -0.0036 and -0.0016 mm²; and the tail
e9_areas : bits (reported_all e9 (0 ∷ 0 ∷ 1 ∷ 1 ∷ []) lent).lists.area
    ≡ 0x3f847ae147ae147b ∷ 0x7ff8000000000000 ∷ 0xbf6d7dbf487fcb92 ∷ 0xbf5a36e2eb1c432d ∷ 0xfff0000000000000 ∷ 0xfff0000000000000 ∷ []
unfolding reported_all reported looked_up table_checked lowest count tabulate to_bits div of_int
e9_areas = refl

e9_lefts : bits (reported_all e9 (0 ∷ 0 ∷ 1 ∷ 1 ∷ []) lent).lists.left
    ≡ 0 ∷ 0x7ff8000000000000 ∷ 0x3fcc28f5c28f5c29 ∷ 0x3fcd70a3d70a3d71 ∷ 0xfff0000000000000 ∷ 0xfff0000000000000 ∷ []
unfolding reported_all reported looked_up table_checked lowest count tabulate to_bits div of_int
e9_lefts = refl

-- one list too short, and all is as it was
cramped : ((reported_all e9 (0 ∷ 1 ∷ 1 ∷ 1 ∷ []) (columns soiled soiled soiled (inf true ∷ inf true ∷ inf true ∷ []) soiled)).answer ≡ refused WrongTable 0)
    × ((reported_all e9 (0 ∷ 1 ∷ 1 ∷ 1 ∷ []) (columns soiled soiled soiled (inf true ∷ inf true ∷ inf true ∷ []) soiled)).lists.area ≡ soiled)
unfolding reported_all table_checked lowest
cramped = (refl, refl)
