-- The part of the points that `measured` reads, and what it makes of it.
use Prim.Native.Nat.{ℕ, ◌+◌, ◌*◌, ◌-◌, ◌^◌, ◌≤◌}
use native.Mathlib.Omega.{arith}
use mathlib.Core.Path.{◌≡◌, ap, ap₂, ◌∙◌}
use mathlib.Core.List.{List}
use lib.IntN.{ℤ, nat_abs}
use lib.ListN.{length, take, drop, length-take}
use lib.Ieee.{Float}
use Rattle.turn.specs.Limits.{max_links}
use Rattle.turn.specs.Points.{Grid}
use Rattle.turn.specs.Area.{area, points_of, wedge_bound}
use Rattle.turn.specs.Grids.{grid_part}
use Rattle.extent.specs.declared.Extent.{Extent}
use Rattle.extent.specs.Extent.{extent_of}
use Rattle.extent.specs.Parts.{points_part}
use Rattle.millimetres.specs.declared.Frame.{Frame}
use Rattle.millimetres.specs.Millimetres.{square_millimetres, frame_of}
use Rattle.report.specs.Reports.{measured}
use Rattle.report.specs.declared.records.Measures.{Measures}

abbrev pub measures : Float → Frame → Measures
measures area frame = record { area = area; frame = frame }

-- the points from `from` on, n of them, as the code cuts them out
abbrev pub part : List ℤ → ℕ → ℕ → List ℤ
part l from n = take (from * 2 + n * 2 - from * 2) (drop (from * 2) l)

module _ (l : List ℤ) (from n : ℕ) where
  part_points : points_of (part l from n) ≡ take n (drop from (points_of l))
  part_points =
      let e : from * 2 + n * 2 - from * 2 ≡ n * 2 = omega arith in
      ap (λ i. points_of (take i (drop (from * 2) l))) e ∙ points_part l from n

  module _ (h : (from + n) * 2 ≤ length l) (m : length l ≤ 2 * max_links) (g : Grid l) where
    pub part_asked : (length (part l from n) ≤ 2 * max_links) × (Grid (part l from n))
    part_asked = (
      omega (arith, length-take (from * 2 + n * 2 - from * 2) (drop (from * 2) l)),
      grid_part l (from * 2) (from * 2 + n * 2 - from * 2) g,
    )

    -- an area of so few points is exact as a float
    pub area_exact : (z : ℤ) → nat_abs z ≤ length (part l from n) * wedge_bound → nat_abs z ≤ 2 ^ 53
    area_exact z k = omega (arith, part_asked.0)

  pub measured_so : (first len : ℕ) → from ≡ first → n ≡ len → (a : Float) (z : ℤ) (f : Frame) (e : Extent) → a ≡ square_millimetres z
      → z ≡ area (points_of (part l from n)) → f ≡ frame_of e → e ≡ extent_of (points_of (part l from n))
      → measures a f ≡ measured (take len (drop first (points_of l)))
  measured_so first len p q a z f e ha hz hf he =
      let w : points_of (part l from n) ≡ take len (drop first (points_of l)) = part_points ∙ ap₂ (λ i j. take i (drop j (points_of l))) q p in
      ap₂ measures (ha ∙ ap square_millimetres (hz ∙ ap area w)) (hf ∙ ap frame_of (he ∙ ap extent_of w))
