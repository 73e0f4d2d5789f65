-- The loop of `fill_lists`: the entries of the contours that it has passed stand in front of the old tails.
use Rattle.std.specs.Prelude.{Option}
use Prim.Native.Nat.{ℕ, ◌+◌, ◌≤◌, ◌<◌, min}
use native.Mathlib.Omega.{arith}
use native.Mathlib.Numerals.{add-one}
use mathlib.Core.Path.{◌≡◌, refl, sym, ap, ap₂, ◌∙◌}
use mathlib.Core.List.{List}
use lib.Dec.{eqb}
use lib.ListN.{length, set}
use lib.Ieee.{Float, nan}
use Rattle.laws.specs.Test.{pick}
use Rattle.laws.specs.Count.{sum, count_none, count_more}
use Rattle.laws.specs.Lists.{tabulate}
use Rattle.laws.specs.Copies.{Copying, copy_start, list_more, list_end}
use Rattle.table.specs.Table.{Table, contour_count, kind_of, shape_of}
use Rattle.table.specs.TableLaws.{bit_small}
use Rattle.table.specs.Sound.{Sound}
use Rattle.report.specs.Reports.{reported, values_of_report}
use Rattle.report.specs.declared.records.ReportValues.{ReportValues}
use Rattle.report_all.specs.Columns.{Columns, Room, is_missing, stored, entry_at, missing_below, shortest, counted, all_entered}
use Rattle.report.specs.declared.records.Measures.{Measures}

-- ---- the least of six, one after another
in_turn : (a b c : ℕ) → min a (min b c) ≡ min (min a b) c
in_turn a b c = omega arith

pub least : (owner area left bottom right top : ℕ) {m₁ m₂ m₃ m₄ m₅ : ℕ} → m₁ ≡ min owner area → m₂ ≡ min m₁ left → m₃ ≡ min m₂ bottom → m₄ ≡ min m₃ right
    → m₅ ≡ min m₄ top → shortest owner area left bottom right top ≡ m₅
least owner area left bottom right top e₁ e₂ e₃ e₄ e₅ = rw (e₅, e₄, e₃, e₂, e₁) (simp in_turn refl)

-- ---- before contour c
-- of one list, whose entries are a part of each contour's
abbrev Column : Table → List ℕ → (ReportValues → Float) → List Float → List Float → ℕ → Type 0
Column t owner part old new c = Copying old new (tabulate (λ i. part (entry_at t owner i)) (contour_count t)) c

pub record Filling (t : Table) (owner : List ℕ) (old new : Columns) (c shape missing : ℕ) : Type 0 where
  pub shape_is : shape ≡ shape_of t c
  pub shape_few : shape ≤ c
  pub missing_is : missing ≡ missing_below t owner c
  pub missing_few : missing ≤ c
  pub area : Column t owner (λ e. e.area) old.area new.area c
  pub left : Column t owner (λ e. e.left) old.left new.left c
  pub bottom : Column t owner (λ e. e.bottom) old.bottom new.bottom c
  pub right : Column t owner (λ e. e.right) old.right new.right c
  pub top : Column t owner (λ e. e.top) old.top new.top c

pub filling_start : (t : Table) (owner : List ℕ) (old : Columns) → Filling t owner old old 0 0 0
unfolding sum
filling_start t owner old = record {
  shape_is = sym (count_none 0 t.kind);
  shape_few = omega arith;
  missing_is = refl;
  missing_few = omega arith;
  area = copy_start _ _;
  left = copy_start _ _;
  bottom = copy_start _ _;
  right = copy_start _ _;
  top = copy_start _ _;
}

one_more : (f : ℕ → ℕ) (n : ℕ) → sum f (n + 1) ≡ sum f n + f n
unfolding sum
one_more f n = rw (add-one n) (omega arith)

module _ {t : Table} {owner : List ℕ} {old new : Columns} {c shape missing : ℕ} (s : Sound t) (room : Room old (contour_count t))
    (g : Filling t owner old new c shape missing) where
  pub filling_more : (r : Option Measures) (v : ReportValues) (after : Columns)
      (shape' missing' : ℕ) → c < contour_count t → r ≡ reported t owner c → v ≡ values_of_report r
      → after ≡ stored new c v → shape' ≡ shape + pick (eqb (kind_of t c) 0) 1 0 → missing' ≡ missing + pick (is_missing r) 1 0
      → Filling t owner old after (c + 1) shape' missing'
  filling_more r v after shape' missing' l er ee ea es em = record {
    shape_is = es ∙ ap (λ n. n + pick (eqb (kind_of t c) 0) 1 0) g.shape_is ∙ sym (count_more 0 t.kind c (omega (arith, s.kind_long)));
    shape_few = omega (arith, g.shape_few, bit_small (eqb (kind_of t c) 0));
    missing_is =
        em ∙ ap₂ (λ n x. n + pick (is_missing x) 1 0) g.missing_is er ∙ sym (one_more (λ i. pick (is_missing (reported t owner i)) 1 0) c);
    missing_few = omega (arith, g.missing_few, bit_small (is_missing r));
    area = rw (ap (λ (k : Columns). k.area) ea) (more (λ x. x.area) g.area (omega (arith, room.0)));
    left = rw (ap (λ (k : Columns). k.left) ea) (more (λ x. x.left) g.left (omega (arith, room.1)));
    bottom = rw (ap (λ (k : Columns). k.bottom) ea) (more (λ x. x.bottom) g.bottom (omega (arith, room.2)));
    right = rw (ap (λ (k : Columns). k.right) ea) (more (λ x. x.right) g.right (omega (arith, room.3)));
    top = rw (ap (λ (k : Columns). k.top) ea) (more (λ x. x.top) g.top (omega (arith, room.4)));
  }
    where
      -- one list
      more : (part : ReportValues → Float) {o n : List Float} → Column t owner part o n c → c < length o → Column t owner part o (set n c (part v)) (c + 1)
      more part h k = list_more nan (λ i. part (entry_at t owner i)) _ _ _ c h _ (ap part (ee ∙ ap values_of_report er)) k l

  pub filling_room : c < contour_count t → Room new (c + 1)
  filling_room l = (
    omega (arith, room.0, g.area.len),
    omega (arith, room.1, g.left.len),
    omega (arith, room.2, g.bottom.len),
    omega (arith, room.3, g.right.len),
    omega (arith, room.4, g.top.len),
  )

  pub filling_end : c ≡ contour_count t → counted missing new ≡ all_entered t owner old
  filling_end q =
      let h : contour_count t ≤ c = omega arith in
      λ i. counted ((g.missing_is ∙ ap (missing_below t owner) q) i) (record {
        area = list_end nan (λ i. (entry_at t owner i).area) _ _ _ c g.area h i;
        left = list_end nan (λ i. (entry_at t owner i).left) _ _ _ c g.left h i;
        bottom = list_end nan (λ i. (entry_at t owner i).bottom) _ _ _ c g.bottom h i;
        right = list_end nan (λ i. (entry_at t owner i).right) _ _ _ c g.right h i;
        top = list_end nan (λ i. (entry_at t owner i).top) _ _ _ c g.top h i;
      })
