-- One edge and one anchor (document 01, "Binding"): when the edge spans the anchor, when it lies under, and which of two edges is nearer.
use Rattle.std.specs.Prelude.{ℕ, ◌*◌, Bool, ◌&&◌, ltb, ℤ, pos, ◌*ℤ◌}
use Rattle.std.specs.Int.Signed.{lt_z, le_z}
use Rattle.laws.specs.Compare.{lower, lower_n}
use Rattle.turn.specs.declared.Vector.{Vector}
use Rattle.turn.specs.Points.{OnGrid, from_to, cross, turn, product_bound, span}
use Rattle.anchor.specs.declared.Anchor.{Anchor}
use Rattle.anchor.specs.Anchor.{anchor_way}
use Rattle.edges.specs.declared.Edge.{Edge}

-- from its left end to its right end
abbrev pub along : Edge → Vector
along e = from_to e.left e.right

-- how far it runs to the right, and how far it climbs
abbrev pub run : Edge → ℤ
run e = (along e).x

abbrev pub rise : Edge → ℤ
rise e = (along e).y

-- "an edge spans the anchor if left x <= anchor x < right x"
abbrev pub spans : ℤ → Edge → Bool
spans x e = le_z e.left.x x && lt_z x e.right.x

-- the vertical gap between the edge and the anchor is the fraction height / run
abbrev pub height : Anchor → Edge → ℤ
height a e = turn e.left e.right a.at

-- "It lies under if the anchor is strictly above it, or on it with the anchor edge strictly counterclockwise of it."
unfoldable pub lies_under : Anchor → Edge → Bool
lies_under a e = lower (pos 0) (height a e) (lt_z (pos 0) (cross (along e) (anchor_way a)))

-- "then the greatest slope, then hulls before holes, then the lower number": slopes, rise / run, by cross products
unfoldable pub wins_tie : Vector → Vector → ℕ → ℕ → ℕ → ℕ → Bool
wins_tie u v ke kf ce cf = lower (v.y *ℤ u.x) (u.y *ℤ v.x) (lower_n ke kf (ltb ce cf))

-- "The nearest has the least vertical gap, compared exactly as fractions": e is nearer to the anchor than f
unfoldable pub nearer : Anchor → Edge → Edge → Bool
nearer a e f =
    lower (height a e *ℤ run f) (height a f *ℤ run e)
    (wins_tie (along e) (along f) e.kind f.kind e.contour f.contour)

-- ---- what the code's numbers stay within
-- an anchor and an edge within the bounds
abbrev pub On : Anchor → Edge → Type 0
On a e = (OnGrid a.at) × (OnGrid a.to) × (OnGrid e.left) × (OnGrid e.right)

-- a height times a run
abbrev pub gap_bound : ℕ
gap_bound = product_bound * span
