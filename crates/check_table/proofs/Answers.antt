-- The ways out of check 10, one law for each, over what the code has found there.
use Rattle.std.specs.Prelude.{Some, None}
use Prim.Native.Nat.{ℕ}
use mathlib.Core.Path.{◌≡◌, sym, ap, ◌∙◌}
use mathlib.Core.Bool.{Bool, true, false, not, ◌||◌}
use lib.ListN.{length}
use borrow.Author.Tests.{eq-eqb, ne_eqb}
use Rattle.laws.specs.Test.{pick}
use Rattle.laws.specs.Lowest.{lowest, lowest_if, some, if_some, if_none}
use Rattle.table.specs.Table.{Table, contour_count, point_count}
use Rattle.table.specs.TableChecks.{misfit, start_in, unended, bad_contour, table_checked}
use Rattle.turn.specs.Refusals.{Checked, refused, no_fault}
use Rattle.turn.specs.declared.Reason.TheVariants.{WrongTable}

-- ---- check 10
abbrev ways : Bool → Bool → Bool → ℕ → Checked
ways m u s c = pick (m || u) (refused WrongTable 0) (pick s (refused WrongTable c) no_fault)

way_misfit : (m u s : Bool) (c : ℕ) → m ≡ true → refused WrongTable 0 ≡ ways m u s c
way_misfit m u s c e = rw e

way_unended : (m u s : Bool) (c : ℕ) → m ≡ false → u ≡ true → refused WrongTable 0 ≡ ways m u s c
way_unended m u s c e f = rw (e, f)

way_bad : (m u s : Bool) (c : ℕ) → m ≡ false → u ≡ false → s ≡ true → refused WrongTable c ≡ ways m u s c
way_bad m u s c e f g = rw (e, f, g)

way_fine : (m u s : Bool) (c : ℕ) → m ≡ false → u ≡ false → s ≡ false → no_fault ≡ ways m u s c
way_fine m u s c e f g = rw (e, f, g)

module _ (t : Table) (owners : ℕ) where
  abbrev pub fit : Bool
  fit = misfit (length t.points) (length t.first) (length t.len) (length t.kind) owners

  abbrev end : ℕ
  end = start_in t.first t.len (contour_count t)

  abbrev bad : ℕ
  bad = lowest (bad_contour t) (contour_count t)

  pub table_misfit : fit ≡ true → refused WrongTable 0 ≡ table_checked t owners
  unfolding table_checked
  table_misfit e = way_misfit fit (unended t) (some (bad_contour t) (contour_count t)) bad e

  pub table_unended : (r : ℕ) → fit ≡ false → r ≡ end → (r ≡ point_count t → ⊥) → refused WrongTable 0 ≡ table_checked t owners
  unfolding table_checked
  table_unended r e q n =
      way_unended fit (unended t) (some (bad_contour t) (contour_count t)) bad e (ap not (ne_eqb end (point_count t) (λ f. n (q ∙ f))))

  module _ (r : ℕ) (e : fit ≡ false) (q : r ≡ end) (f : r ≡ point_count t) where
    pub table_bad : (c : ℕ) → lowest_if (bad_contour t) (contour_count t) ≡ Some c → refused WrongTable c ≡ table_checked t owners
    unfolding table_checked
    table_bad c k =
        let h = if_some (bad_contour t) (contour_count t) c k in
        ap (refused WrongTable) (sym h.1) ∙ way_bad fit (unended t) (some (bad_contour t) (contour_count t)) bad e
        (ap not (eq-eqb end (point_count t) (sym q ∙ f))) h.0

    pub table_fine : lowest_if (bad_contour t) (contour_count t) ≡ None → no_fault ≡ table_checked t owners
    unfolding table_checked
    table_fine k =
        way_fine fit (unended t) (some (bad_contour t) (contour_count t)) bad e (ap not (eq-eqb end (point_count t) (sym q ∙ f)))
        (if_none (bad_contour t) (contour_count t) k)
