-- What each public function promises, written once: its contract names it, and any two outcomes that it allows are equal.
use Rattle.std.specs.Prelude.{List, ◌≡◌, Bool, ℕ}
use Rattle.laws.specs.Unique.{Determines, by_equation}
use Rattle.turn.specs.declared.Point.{Point}
use Rattle.graph.specs.Checks.{node_at}
use Rattle.graph.specs.Quick.{bridge_wrong}

-- the answer; of what is laid see `LaidBridge`
abbrev pub LayBridgeSays : (a b : ℕ → Point) → (a_id b_id state : List ℕ) → (v e f : ℕ) → Bool → Type 0
LayBridgeSays a b a_id b_id state v e f r = r ≡ bridge_wrong a_id b_id a b (node_at a_id) state v e f

pub lay_bridge_once : (a b : ℕ → Point) (a_id b_id state : List ℕ) (v e f : ℕ) → Determines (LayBridgeSays a b a_id b_id state v e f)
lay_bridge_once a b a_id b_id state v e f = by_equation (bridge_wrong a_id b_id a b (node_at a_id) state v e f)
