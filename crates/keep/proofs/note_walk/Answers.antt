-- `keep::note_walk` meets its contract: rule 6 decides whether the walk is entered.
use Prim.Native.Nat.{ℕ, ◌-◌, ◌<◌}
use native.Mathlib.Omega.{arith}
use mathlib.Core.List.{List}
use mathlib.Core.Path.{◌≡◌, sym, ◌∙◌}
use lib.IntN.{ℤ}
use lib.ListN.{length}
use mir.Syntax.{w64}
use mir.Val.{to_z, of_z}
use Rattle.laws.specs.Bounds.{same64}
use Rattle.keep.proofs.Counting.{note_kept, note_rejected, area_fits}
use Rattle.keep.specs.Tables.{Tables, tables}
use Rattle.keep.specs.Ledger.{kept_three}
use Rattle.keep.proofs.note_walk.Goals as goal

pub enter_contour-requires : goal.enter_contour-requires
enter_contour-requires c =
    let size : ℕ = c.args.to - c.args.c.points in
    let whole : to_z w64 (of_z w64 c.args.area) ≡ c.args.area = same64 c.args.area (area_fits c.args.area size c.requires.points_le_to.2
    (omega (arith, c.requires.points_le_to.1.links))) in
    let d = c in
    let s = c in
    let t = kept_three size s.args.area s.args.minimum (sym (rw whole at d.is_kept.ensures) ∙ c.if-is_kept.true) in
    let w = s.requires.points_le_to.1 in
    let i : s.args.c.contours < length s.args.first.now = omega (arith, w.contours, s.requires.to_in_bounds.0, t, s.requires.points_le_to.0) in record {
      i_in_bounds = (i, rw s.requires.to_in_bounds.1 i, rw s.requires.to_in_bounds.2 i);
      at_le_max_links = (omega (arith, w.points, w.links), omega (arith, w.links));
    }

pub returns-then-is_kept : goal.returns-then-is_kept
returns-then-is_kept c points =
    let size : ℕ = c.args.to - c.args.c.points in
    let before-with : List ℤ → Tables = λ points. tables points c.args.first.now c.args.len.now c.args.kind.now c.args.c in
    let whole : to_z w64 (of_z w64 c.args.area) ≡ c.args.area = same64 c.args.area (area_fits c.args.area size c.requires.points_le_to.2
    (omega (arith, c.requires.points_le_to.1.links))) in
    let o = c in
    let d = c in
    let s = c in
    note_kept s.args.minimum s.args.hole size s.args.area (before-with points) _ _ _ _
    (sym (rw whole at d.is_kept.ensures) ∙ o.if-is_kept.true)
    o.enter_contour.ensures.0 o.enter_contour.ensures.1.0 o.enter_contour.ensures.1.1 (rw whole at c.kept_counts.ensures)

pub returns : goal.returns
returns c points =
    let size : ℕ = c.args.to - c.args.c.points in
    let before-with : List ℤ → Tables = λ points. tables points c.args.first.now c.args.len.now c.args.kind.now c.args.c in
    let whole : to_z w64 (of_z w64 c.args.area) ≡ c.args.area = same64 c.args.area (area_fits c.args.area size c.requires.points_le_to.2
    (omega (arith, c.requires.points_le_to.1.links))) in
    let d = c in
    let s = c in
    note_rejected s.args.minimum s.args.hole size s.args.area (before-with points) _
    (sym (rw whole at d.is_kept.ensures) ∙ c.if-is_kept.false) (rw whole at c.rejected_counts.ensures)
