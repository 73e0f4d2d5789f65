-- The counts of the scan: sums that fit, a walk entered in the table or counted as rejected, and what the counts stay within.
use Prim.Native.Nat.{ℕ, ◌*◌, ◌≤◌, ◌<◌}
use mathlib.Core.Path.{◌≡◌, sym, subst}
use mathlib.Core.Bool.{Bool, true, false}
use mathlib.Core.List.{List, []}
use native.Mathlib.Omega.{arith}
use lib.ListN.{set}
use lib.IntN.{ℤ, nat_abs}
use Rattle.laws.specs.Test.{pick}
use Rattle.turn.specs.Limits.{max_links}
use Rattle.turn.specs.Area.{wedge_bound}
use Rattle.turn.specs.Size.{is_kept}
use Rattle.keep.specs.declared.Counts.{Counts}
use Rattle.keep.specs.Tables.{Tables, tables, enter, enter_kept, enter_rejected}

-- an area of so many points
pub area_fits : (x : ℤ) (n : ℕ) → nat_abs x ≤ n * (2 * wedge_bound) → n ≤ max_links → nat_abs x < 9223372036854775808
area_fits x n h k = omega arith

-- a walk entered, as the code enters it
module _ (minimum : ℕ) (hole : Bool) (size : ℕ) (a : ℤ) (t : Tables) (r : Counts) where
  pub note_kept : (first len kind : List ℕ) → is_kept size a minimum ≡ true
      → first ≡ set t.first t.counts.contours t.counts.points → len ≡ set t.len t.counts.contours size → kind
      ≡ set t.kind t.counts.contours (pick hole 1 0)
      → r ≡ (enter_kept true size a (tables [] [] [] [] t.counts)).counts → tables t.points first len kind r ≡ enter minimum hole size a t
  note_kept first len kind k f l i q =
      subst (λ c. tables t.points first len kind r ≡ pick c (enter_kept hole size a t) (enter_rejected size a t)) (sym k)
      (λ j. tables t.points (f j) (l j) (i j) (q j))

  pub note_rejected : is_kept size a minimum ≡ false → r ≡ (enter_rejected size a (tables [] [] [] [] t.counts)).counts → tables t.points
      t.first t.len t.kind r ≡ enter minimum hole size a t
  note_rejected k q =
      subst (λ c. tables t.points t.first t.len t.kind r ≡ pick c (enter_kept hole size a t) (enter_rejected size a t)) (sym k)
      (λ j. tables t.points t.first t.len t.kind (q j))
