-- A report by the bits of its floats, and a hole that check 11 would refuse, which a report does not ask. What the reports are, is proved in
-- proofs/ReportedExamples.antt.
use Rattle.std.specs.Prelude.{ℕ, ◌≡◌, refl, true, false, List, [], ◌∷◌, pos, Option, Some, None}
use Rattle.std.specs.Float.{binary64}
use Rattle.std.specs.Float.Ieee.{to_bits}
use Rattle.laws.specs.Lowest.{lowest}
use Rattle.table.specs.Table.{Table, table}
use Rattle.table.specs.TableChecks.{table_checked}
use Rattle.anchor.specs.AnchorChecks.{hole_before, anchors_checked, both_checked}
use Rattle.turn.specs.Refusals.{refused}
use Rattle.turn.specs.declared.Reason.TheVariants.{WrongAnchor}
use Rattle.report.specs.declared.records.Measures.{Measures}

-- area, left, bottom, right, top; nothing where there is no report
abbrev pub bits_of : Option Measures → List ℕ
bits_of (Some m) =
    to_bits binary64 m.area ∷ to_bits binary64 m.frame.left ∷ to_bits binary64 m.frame.bottom
    ∷ to_bits binary64 m.frame.right ∷ to_bits binary64 m.frame.top ∷ []
bits_of None = []

-- ---- E9's first hole from its second point on: neither point 0 nor point 1 is its least
abbrev pub misplaced : Table
misplaced = table (pos 22 ∷ pos 8 ∷ pos 28 ∷ pos 8 ∷ pos 28 ∷ pos 2 ∷ pos 22 ∷ pos 2 ∷ []) (0 ∷ []) (4 ∷ []) (1 ∷ [])

pub misplaced_anchor : (both_checked misplaced 1 false ≡ refused WrongAnchor 0) × (both_checked misplaced 1 true ≡ refused WrongAnchor 0)
unfolding table_checked anchors_checked lowest hole_before
misplaced_anchor = (refl, refl)
