-- Lookups in the tables of E9 and E10, with the owners that binding gives.
use Rattle.std.specs.Prelude.{◌≡◌, refl, [], ◌∷◌, Some, None}
use Rattle.laws.specs.Lowest.{lowest}
use Rattle.laws.specs.Count.{count}
use Rattle.table.specs.Table.{dropped_owner}
use Rattle.table.specs.TableChecks.{table_checked}
use Rattle.table.specs.Examples.{e9, e10_one, no_hull}
use Rattle.lookup.specs.declared.records.Role.TheVariants.{Hull, Hole, Dropped}
use Rattle.lookup.specs.Lookups.{looked_up, looked_up_values}

-- ---- lookups, with the owners that binding gives
e9_hull : looked_up e9 (0 ∷ 1 ∷ 1 ∷ 1 ∷ []) 1 ≡ Some (record { first = 4; len = 4; role = Hull 1 })
unfolding looked_up table_checked lowest count
e9_hull = refl

e9_hole : looked_up e9 (0 ∷ 1 ∷ 1 ∷ 1 ∷ []) 3 ≡ Some (record { first = 12; len = 4; role = Hole 1 })
unfolding looked_up table_checked lowest count
e9_hole = refl

e9_wrong : looked_up e9 (0 ∷ 0 ∷ 1 ∷ 2 ∷ []) 1 ≡ None
unfolding looked_up table_checked lowest count
e9_wrong = refl

e9_none : looked_up e9 (0 ∷ 1 ∷ 1 ∷ 1 ∷ []) 4 ≡ None
unfolding looked_up table_checked lowest count
e9_none = refl

e10_one_lem : looked_up e10_one (0 ∷ 0 ∷ 0 ∷ []) 2 ≡ Some (record { first = 8; len = 4; role = Hole 0 })
unfolding looked_up table_checked lowest count
e10_one_lem = refl

dropped : looked_up no_hull (dropped_owner ∷ dropped_owner ∷ []) 1 ≡ Some (record { first = 4; len = 4; role = Dropped })
unfolding looked_up table_checked lowest count
dropped = refl

-- ---- document 01's numbers and values of such answers
dropped_values : looked_up_values no_hull (dropped_owner ∷ dropped_owner ∷ []) 1 ≡ record { found = 1; role = 2; owner = 65535; first = 4; len = 4 }
unfolding looked_up_values table_checked lowest count
dropped_values = refl

none_values : looked_up_values e9 (0 ∷ 1 ∷ 1 ∷ 1 ∷ []) 4 ≡ record { found = 0; role = 0; owner = 0; first = 0; len = 0 }
unfolding looked_up_values table_checked lowest count
none_values = refl
