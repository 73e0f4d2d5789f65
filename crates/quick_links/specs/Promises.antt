-- What each public function promises, written once: its contract names it, and any two outcomes that it allows are equal.
use Rattle.std.specs.Prelude.{ℕ, ◌≡◌, Bool, List, length}
use Rattle.laws.specs.Lowest.{some}
use Rattle.laws.specs.Unique.{Determines, by_equation}
use Rattle.turn.specs.declared.Point.{Point}
use Rattle.graph.specs.Checks.{flag_fault}
use Rattle.quick_links.specs.Quick.{misplaced_at, misnamed_at}

-- of so many links, by their a's and b's
abbrev pub AnyMisplacedSays : (a b : ℕ → Point) → ℕ → Bool → Type 0
AnyMisplacedSays a b n r = r ≡ some (misplaced_at a b) n

pub any_misplaced_once : (a b : ℕ → Point) (n : ℕ) → Determines (AnyMisplacedSays a b n)
any_misplaced_once a b n = by_equation (some (misplaced_at a b) n)

abbrev pub AnyMisnamedSays : ℕ → (a_id b_id : List ℕ) → Bool → Type 0
AnyMisnamedSays m a_id b_id r = r ≡ some (misnamed_at m a_id b_id) (length a_id)

pub any_misnamed_once : (m : ℕ) (a_id b_id : List ℕ) → Determines (AnyMisnamedSays m a_id b_id)
any_misnamed_once m a_id b_id = by_equation (some (misnamed_at m a_id b_id) (length a_id))

abbrev pub AnyMisflaggedSays : (top state : List ℕ) → Bool → Type 0
AnyMisflaggedSays top state r = r ≡ some (flag_fault top state) (length top)

pub any_misflagged_once : (top state : List ℕ) → Determines (AnyMisflaggedSays top state)
any_misflagged_once top state = by_equation (some (flag_fault top state) (length top))
