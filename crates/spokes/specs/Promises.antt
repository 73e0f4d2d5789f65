-- What each public function promises, written once: its contract names it, and any two outcomes that it allows are equal.
use Rattle.std.specs.Prelude.{List, ◌≡◌, Bool, true, ℕ, length}
use Rattle.laws.specs.Test.{pick}
use Rattle.laws.specs.Lowest.{some}
use Rattle.laws.specs.Unique.{Determines, by_equation}
use Rattle.turn.specs.declared.Point.{Point}
use Rattle.graph.specs.Checks.{node_at, stray_in}
use Rattle.graph.specs.Quick.{clash_at}

-- the answer; of the ring see `LaidCross`
abbrev pub LayCrossSays : (a b : ℕ → Point) → (a_id b_id state here : List ℕ) → ℕ → Bool → Type 0
LayCrossSays a b a_id b_id state here v r =
    r ≡ pick (stray_in a_id b_id here v) true (some (clash_at a b (node_at a_id) state here v) (length here))

pub lay_cross_once : (a b : ℕ → Point) (a_id b_id state here : List ℕ) (v : ℕ) → Determines (LayCrossSays a b a_id b_id state here v)
lay_cross_once a b a_id b_id state here v =
    by_equation (pick (stray_in a_id b_id here v) true (some (clash_at a b (node_at a_id) state here v) (length here)))
