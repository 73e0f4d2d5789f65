-- Check 11 of binding: the lowest contour whose anchor is wrong; and checks 10 and 11 in their order.
use Rattle.std.specs.Prelude.{ℕ, zero, suc, ◌+◌, ◌-◌, Bool, ◌&&◌, ◌||◌, List, ltb, ℤ, get_or}
use Rattle.laws.specs.Test.{pick}
use Rattle.laws.specs.Lowest.{some}
use Rattle.turn.specs.declared.Point.{Point}
use Rattle.turn.specs.Points.{before}
use Rattle.turn.specs.Refusals.{refuse_at, followed_by, Checked, no_fault}
use Rattle.table.specs.Table.{Table, is_hole, point_in, contour_count, first_of, len_of}
use Rattle.table.specs.TableChecks.{table_checked}
use Rattle.anchor.specs.Anchor.{anchor_point_in, anchor_point}
use Rattle.turn.specs.declared.Reason.TheVariants.{WrongAnchor}

-- the last hole before contour c, as its number and 1; 0 where there is none
unfoldable pub hole_before : Table → ℕ → ℕ
hole_before t zero = 0
hole_before t (suc c) = let earlier = hole_before t c in pick (is_hole t c) (suc c) earlier

-- ---- 11, at the lowest contour
-- "a hole's anchor is not its least point": one of its points is before it
abbrev pub not_least : List ℤ → ℕ → ℕ → Point → Bool
not_least points from len anchor = some (λ k. before (point_in points (from + k)) anchor) len

-- "or is before the previous hole's", which is given by its number and 1; 0 is none
abbrev pub before_last : List ℤ → List ℕ → Bool → ℕ → Point → Bool
before_last points first cw last anchor = ltb 0 last && before anchor (anchor_point_in points (get_or first (last - 1) 0) cw)

abbrev pub before_previous_hole : Table → Bool → ℕ → Bool
before_previous_hole t cw c = before_last t.points t.first cw (hole_before t c) (anchor_point t cw c)

abbrev pub bad_anchor : Table → Bool → ℕ → Bool
bad_anchor t cw c = is_hole t c && (not_least t.points (first_of t c) (len_of t c) (anchor_point t cw c) || before_previous_hole t cw c)

-- check 11, for an output direction
unfoldable pub anchors_checked : Table → Bool → Checked
anchors_checked t cw = refuse_at WrongAnchor (bad_anchor t cw) (contour_count t) no_fault

-- check 10, then check 11
abbrev pub both_checked : Table → ℕ → Bool → Checked
both_checked t owners cw = followed_by (table_checked t owners) (anchors_checked t cw)
