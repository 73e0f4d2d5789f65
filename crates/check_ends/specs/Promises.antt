-- What each public function promises, written once: its contract names it, and any two outcomes that it allows are equal.
use Rattle.std.specs.Prelude.{List, ◌≡◌, length, ℕ, ◌-◌, Option}
use Rattle.laws.specs.Lowest.{lowest_if}
use Rattle.laws.specs.Unique.{Determines, by_equation}
use Rattle.turn.specs.declared.Point.{Point}
use Rattle.graph.specs.Graph.{part}
use Rattle.graph.specs.Checks.{node_at, apart_at, alike_at}

abbrev pub ApartNodeSays : (a b : ℕ → Point) → (a_id start list : List ℕ) → Option ℕ → Type 0
ApartNodeSays a b a_id start list r = r ≡ lowest_if (apart_at a b (node_at a_id) (part start list)) (length start - 1)

pub apart_node_once : (a b : ℕ → Point) (a_id start list : List ℕ) → Determines (ApartNodeSays a b a_id start list)
apart_node_once a b a_id start list = by_equation (lowest_if (apart_at a b (node_at a_id) (part start list)) (length start - 1))

abbrev pub AlikeNodeSays : (a b : ℕ → Point) → (a_id start list state : List ℕ) → Option ℕ → Type 0
AlikeNodeSays a b a_id start list state r = r ≡ lowest_if (alike_at a b (node_at a_id) state (part start list)) (length start - 1)

pub alike_node_once : (a b : ℕ → Point) (a_id start list state : List ℕ) → Determines (AlikeNodeSays a b a_id start list state)
alike_node_once a b a_id start list state = by_equation (lowest_if (alike_at a b (node_at a_id) state (part start list)) (length start - 1))
