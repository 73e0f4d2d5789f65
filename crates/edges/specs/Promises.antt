-- What each public function promises, written once: its contract names it, and any two outcomes that it allows are equal.
use Rattle.std.specs.Prelude.{◌≡◌, Bool}
use Rattle.laws.specs.Unique.{Determines, by_equation}
use Rattle.anchor.specs.declared.Anchor.{Anchor}
use Rattle.edges.specs.declared.Edge.{Edge}
use Rattle.edges.specs.Edges.{lies_under, nearer}

abbrev pub LiesUnderSays : Anchor → Edge → Bool → Type 0
LiesUnderSays a e r = r ≡ lies_under a e

pub lies_under_once : (a : Anchor) (e : Edge) → Determines (LiesUnderSays a e)
lies_under_once a e = by_equation (lies_under a e)

abbrev pub IsNearerSays : Anchor → Edge → Edge → Bool → Type 0
IsNearerSays a e f r = r ≡ nearer a e f

pub is_nearer_once : (a : Anchor) (e f : Edge) → Determines (IsNearerSays a e f)
is_nearer_once a e f = by_equation (nearer a e f)
