-- Reports of E9's contours by the bits of their floats; and of a hole that check 11 would refuse, which a report does not ask.
use Rattle.std.specs.Prelude.{◌≡◌, refl, [], ◌∷◌, map}
use Rattle.std.specs.Float.Ieee.{div, of_int, to_bits}
use Rattle.laws.specs.Lowest.{lowest}
use Rattle.laws.specs.Count.{count}
use Rattle.table.specs.Table.{dropped_owner}
use Rattle.table.specs.TableChecks.{table_checked}
use Rattle.table.specs.Examples.{e9}
use Rattle.lookup.specs.Lookups.{looked_up}
use Rattle.report.specs.Reports.{reported}
use Rattle.report.specs.Examples.{bits_of, misplaced}

-- ---- E9, with the owners that binding gives: 0.01, 0.02, -0.0036 and -0.0016 mm²; there is no fifth contour
pub e9_reports : map (λ c. bits_of (reported e9 (0 ∷ 1 ∷ 1 ∷ 1 ∷ []) c)) (0 ∷ 1 ∷ 2 ∷ 3 ∷ 4 ∷ [])
    ≡ (0x3f847ae147ae147b ∷ 0 ∷ 0 ∷ 0x3fb999999999999a ∷ 0x3fb999999999999a ∷ [])
    ∷ (0x3f947ae147ae147b ∷ 0x3fc999999999999a ∷ 0 ∷ 0x3fd3333333333333 ∷ 0x3fc999999999999a ∷ [])
    ∷ (0xbf6d7dbf487fcb92 ∷ 0x3fcc28f5c28f5c29 ∷ 0x3f947ae147ae147b ∷ 0x3fd1eb851eb851ec ∷ 0x3fb47ae147ae147b ∷ [])
    ∷ (0xbf5a36e2eb1c432d ∷ 0x3fcd70a3d70a3d71 ∷ 0x3fb999999999999a ∷ 0x3fd147ae147ae148 ∷ 0x3fc1eb851eb851ec ∷ []) ∷ [] ∷ []
unfolding reported looked_up table_checked lowest count to_bits div of_int
e9_reports = refl

-- a wrong owner is that contour's alone
pub e9_wrong : map (λ c. bits_of (reported e9 (0 ∷ 0 ∷ 1 ∷ 1 ∷ []) c)) (1 ∷ 3 ∷ [])
    ≡ [] ∷ (0xbf5a36e2eb1c432d ∷ 0x3fcd70a3d70a3d71 ∷ 0x3fb999999999999a ∷ 0x3fd147ae147ae148 ∷ 0x3fc1eb851eb851ec ∷ []) ∷ []
unfolding reported looked_up table_checked lowest count to_bits div of_int
e9_wrong = refl

-- ---- E9's first hole from its second point on
pub misplaced_report : bits_of (reported misplaced (dropped_owner ∷ []) 0)
    ≡ 0xbf6d7dbf487fcb92 ∷ 0x3fcc28f5c28f5c29 ∷ 0x3f947ae147ae147b ∷ 0x3fd1eb851eb851ec ∷ 0x3fb47ae147ae147b ∷ []
unfolding reported looked_up table_checked lowest count to_bits div of_int
misplaced_report = refl
