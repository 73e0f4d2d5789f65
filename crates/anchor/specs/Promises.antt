-- What each public function promises, written once: its contract names it, and any two outcomes that it allows are equal.
use Rattle.std.specs.Prelude.{ℕ, ◌+◌, ◌≡◌, Bool, List, ℤ}
use Rattle.laws.specs.Unique.{Determines, by_equation}
use Rattle.turn.specs.declared.Point.{Point}
use Rattle.anchor.specs.declared.Anchor.{Anchor}
use Rattle.anchor.specs.Anchor.{anchor_point_in, anchor_edge_in}

abbrev pub AnchorPointSays : List ℤ → ℕ → Bool → Point → Type 0
AnchorPointSays points from clockwise r = r ≡ anchor_point_in points from clockwise

pub anchor_point_once : (points : List ℤ) (from : ℕ) (clockwise : Bool) → Determines (AnchorPointSays points from clockwise)
anchor_point_once points from clockwise = by_equation (anchor_point_in points from clockwise)

abbrev pub LeftBottomSegmentFromSays : List ℤ → ℕ → ℕ → Bool → Anchor → Type 0
LeftBottomSegmentFromSays points from len clockwise r = r ≡ anchor_edge_in points from (from + len) clockwise

pub left_bottom_segment_from_once : (points : List ℤ) (from len : ℕ) (clockwise : Bool)
    → Determines (LeftBottomSegmentFromSays points from len clockwise)
left_bottom_segment_from_once points from len clockwise = by_equation (anchor_edge_in points from (from + len) clockwise)
