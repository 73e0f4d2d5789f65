-- What the public function promises, written once: its contract names it, and any two outcomes that it allows are equal.
use Rattle.std.specs.Prelude.{List, ◌≡◌, Bool, ℕ}
use Rattle.laws.specs.Unique.{Determines, by_equation}
use Rattle.graph.specs.Checks.{bad_nodes}

abbrev pub BadNodesSays : (a_id b_id start list : List ℕ) → Bool → Type 0
BadNodesSays a_id b_id start list r = r ≡ bad_nodes a_id b_id start list

pub bad_nodes_once : (a_id b_id start list : List ℕ) → Determines (BadNodesSays a_id b_id start list)
bad_nodes_once a_id b_id start list = by_equation (bad_nodes a_id b_id start list)
