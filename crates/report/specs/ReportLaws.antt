-- What a lookup has found is a contour of a sound table: its area is exact before it is divided, and its frame encloses the contour. That a report is missing
-- exactly where the lookup is, is proved in proofs/Reported.antt.
use Rattle.std.specs.Prelude.{ℕ, suc, ◌+◌, ◌*◌, ◌-◌, ◌^◌, ◌≤◌, ◌<◌, ◌≡◌, nat_abs, length, take, drop, Option, Some, None}
use Rattle.std.proofs.Common.{arith, sym, ap₂, ◌∙◌, length-take}
use Rattle.std.proofs.Math.Path.{ap}
use mathlib.Core.List.{List, ◌∷◌, Memᴰ}
use Rattle.turn.specs.Limits.{max_links}
use Rattle.turn.specs.declared.Point.{Point}
use Rattle.turn.specs.Points.{OnGrid, Grid}
use Rattle.turn.specs.Area.{area, points_of}
use Rattle.turn.specs.Areas.{area_bound}
use Rattle.turn.specs.Grids.{grid_part, grid_points}
use Rattle.table.specs.Table.{Table, contour, contour_count, first_of, len_of, point_in}
use Rattle.table.specs.Sound.{Sound}
use Rattle.table.specs.Passing.{passes_sound}
use Rattle.lookup.specs.declared.records.ContourRecord.{ContourRecord}
use Rattle.lookup.specs.Lookups.{record_of, looked_up}
use Rattle.lookup.specs.LookupLaws.{Present, found_record_lem, found_present}
use Rattle.extent.specs.Extent.{extent_of}
use Rattle.extent.specs.Parts.{points_part, points_on}
use Rattle.extent.specs.Bounds.{Encloses, extent_encloses}

-- what measuring a contour of a sound table asks for
pub contour_room : (t : Table) → Sound t → (c : ℕ) → c < contour_count t
    → (1 ≤ len_of t c) × ((first_of t c + len_of t c) * 2 ≤ length t.points) × (length t.points ≤ 2 * max_links) × (Grid t.points)
contour_room t s c l = (omega (arith, s.long c l), omega (arith, s.within c l, s.whole), omega (arith, s.whole, s.few), s.grid)

module _ (t : Table) (owner : List ℕ) (c : ℕ) where
  -- ---- what was found
  module _ (r : ContourRecord) (e : looked_up t owner c ≡ Some r) where
    present : Present t owner c
    present = found_present t owner c r e

    sound : Sound t
    sound = ((passes_sound t (length owner)).to present.passes).0

    record_is : r ≡ record_of t owner c
    record_is = go (sym e ∙ found_record_lem t owner c present)
      where
        held : Option ContourRecord → ContourRecord
        held (Some s) = s
        held None = r

        go : Some r ≡ Some (record_of t owner c) → r ≡ record_of t owner c
        go q = ap held q

    pub first_is : r.first ≡ first_of t c
    first_is = ap (λ (s : ContourRecord). s.first) record_is

    pub len_is : r.len ≡ len_of t c
    len_is = ap (λ (s : ContourRecord). s.len) record_is

    pub room : (1 ≤ r.len) × ((r.first + r.len) * 2 ≤ length t.points) × (length t.points ≤ 2 * max_links) × (Grid t.points)
    room = let h = contour_room t sound c present.below in (omega (arith, len_is), omega (arith, first_is, len_is, h.1), h.2, h.3)

-- ---- a contour of a sound table
module _ (t : Table) (s : Sound t) (c : ℕ) (l : c < contour_count t) where
  as_part : contour t c ≡ points_of (take (len_of t c * 2) (drop (first_of t c * 2) t.points))
  as_part = sym (points_part t.points (first_of t c) (len_of t c))

  pub points_few : length (contour t c) ≤ max_links
  points_few = omega (arith, length-take (len_of t c) (drop (first_of t c) (points_of t.points)), s.within c l, s.few)

  pub on_grid : (p : Point) → Memᴰ p (contour t c) → OnGrid p
  on_grid =
      rw as_part
      (grid_points (take (len_of t c * 2) (drop (first_of t c * 2) t.points)) (grid_part t.points (first_of t c * 2) (len_of t c * 2) s.grid))

  -- with at most 4,096 points the doubled area is below 2^53: each point adds at most 2^39
  pub area_small : nat_abs (area (contour t c)) < 2 ^ 53
  area_small = omega (arith, area_bound (contour t c) on_grid, points_few)

  -- it has a first point
  some : contour t c ≡ point_in t.points (first_of t c) ∷ take (len_of t c - 1) (drop (suc (first_of t c)) (points_of t.points))
  some =
      let n : len_of t c ≡ suc (len_of t c - 1) = omega (arith, s.long c l) in
      ap₂ take n (points_on t.points (first_of t c) (omega (arith, s.long c l, s.within c l, s.whole)))

  -- the whole numbers behind the frame are the least and the greatest of the contour's coordinates
  pub frame_encloses : Encloses (contour t c) (extent_of (contour t c))
  frame_encloses = rw some (extent_encloses _ _)
