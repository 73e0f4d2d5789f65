-- What the public function promises, written once: its contract names it, and any two outcomes that it allows are equal.
use Rattle.std.specs.Prelude.{List, ◌≡◌, Bool, ◌||◌, ℕ}
use Rattle.laws.specs.Unique.{Determines, by_equation}
use Rattle.graph.specs.Graph.{Lent, link_count}
use Rattle.graph.specs.Checks.{Room, unlike, few_points, unlike_band, few_contours}

-- what check 2 asks, in `graph/Checks.links_checked`
abbrev pub no_room : Lent → List ℕ → List ℕ → Room → Bool
no_room g top state r =
    unlike g || few_points (link_count g) r.points || unlike_band (link_count g) top state
    || few_contours (link_count g) r.firsts r.lens r.kinds

abbrev pub NoRoomSays : Lent → List ℕ → List ℕ → Room → Bool → Type 0
NoRoomSays g top state rm r = r ≡ no_room g top state rm

pub no_room_once : (g : Lent) (top state : List ℕ) (rm : Room) → Determines (NoRoomSays g top state rm)
no_room_once g top state rm = by_equation (no_room g top state rm)
