-- The last hole as the code holds it, and the two ways out of check 11.
use Prim.Native.Nat.{ℕ, zero, suc, ◌+◌, ◌≤◌, ◌<◌}
use native.Mathlib.Omega.{arith}
use native.Mathlib.Numerals.{add-one}
use mathlib.Core.Path.{◌≡◌, refl, ap, ◌∙◌}
use mathlib.Core.Bool.{Bool, true, false}
use Rattle.std.proofs.Common.{Option, Some}
use Rattle.laws.specs.Test.{pick}
use Rattle.laws.specs.Lowest.{NoneBelow, found, some_yes, some_no}
use Rattle.turn.specs.Refusals.{refused, no_fault}
use Rattle.turn.specs.declared.Reason.TheVariants.{WrongAnchor}
use Rattle.table.specs.Table.{Table, contour_count, is_hole}
use Rattle.anchor.specs.AnchorChecks.{hole_before, bad_anchor, anchors_checked}
use Rattle.check_anchors.specs.Holes.{number_and_one}

-- ---- the last hole before the first contour, a contour later, and where it stands
pub no_hole : (t : Table) → 0 ≡ hole_before t 0
unfolding hole_before
no_hole t = refl

pub hole_next : (t : Table) (c : ℕ) (last r : Option ℕ) → r ≡ pick (is_hole t c) (Some c) last → number_and_one last ≡ hole_before t c
    → number_and_one r ≡ hole_before t (c + 1)
unfolding hole_before
hole_next t c last r e f = rw (add-one c) (ap number_and_one e ∙ go (is_hole t c))
  where
    go : (b : Bool) → number_and_one (pick b (Some c) last) ≡ pick b (suc c) (hole_before t c)
    go true = add-one c
    go false = f

pub hole_low : (t : Table) (c : ℕ) → hole_before t c ≤ c
unfolding hole_before
hole_low t zero = omega arith
hole_low t (suc c) = go (is_hole t c) (hole_low t c)
  where
    go : (b : Bool) → hole_before t c ≤ c → pick b (suc c) (hole_before t c) ≤ suc c
    go true h = omega arith
    go false h = omega arith

-- ---- check 11
module _ (t : Table) (cw : Bool) where
  pub anchors_bad : (c : ℕ) → c < contour_count t → NoneBelow (bad_anchor t cw) c → bad_anchor t cw c ≡ true → refused WrongAnchor c ≡ anchors_checked t cw
  unfolding anchors_checked
  anchors_bad c l m e = rw (some_yes (bad_anchor t cw) (contour_count t) c l m e, found (bad_anchor t cw) (contour_count t) c l m e)

  pub anchors_fine : NoneBelow (bad_anchor t cw) (contour_count t) → no_fault ≡ anchors_checked t cw
  unfolding anchors_checked
  anchors_fine m = rw (some_no (bad_anchor t cw) (contour_count t) m)
