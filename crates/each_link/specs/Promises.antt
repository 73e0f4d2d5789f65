-- What each public function promises, written once: its contract names it, and any two outcomes that it allows are equal.
use Rattle.std.specs.Prelude.{ℕ, ◌≡◌, Bool, List, Option}
use Rattle.laws.specs.Lowest.{lowest_if}
use Rattle.laws.specs.Unique.{Determines, by_equation}
use Rattle.turn.specs.declared.Point.{Point}
use Rattle.graph.specs.Graph.{Lent, link_count}
use Rattle.graph.specs.Checks.{misplaced, misflagged, link_wrong, out_of_order}

abbrev pub MisplacedSays : Point → Point → Bool → Type 0
MisplacedSays a b r = r ≡ misplaced a b

pub misplaced_once : (a b : Point) → Determines (MisplacedSays a b)
misplaced_once a b = by_equation (misplaced a b)

abbrev pub MisflaggedSays : ℕ → ℕ → Bool → Type 0
MisflaggedSays top state r = r ≡ misflagged top state

pub misflagged_once : (top state : ℕ) → Determines (MisflaggedSays top state)
misflagged_once top state = by_equation (misflagged top state)

abbrev pub BadLinkSays : Lent → List ℕ → List ℕ → Option ℕ → Type 0
BadLinkSays g top state r = r ≡ lowest_if (link_wrong g top state) (link_count g)

pub bad_link_once : (g : Lent) (top state : List ℕ) → Determines (BadLinkSays g top state)
bad_link_once g top state = by_equation (lowest_if (link_wrong g top state) (link_count g))

-- of so many links, by their a's
abbrev pub OutOfOrderSays : (ℕ → Point) → ℕ → Option ℕ → Type 0
OutOfOrderSays a n r = r ≡ lowest_if (out_of_order a) n

pub out_of_order_once : (a : ℕ → Point) (n : ℕ) → Determines (OutOfOrderSays a n)
out_of_order_once a n = by_equation (lowest_if (out_of_order a) n)
