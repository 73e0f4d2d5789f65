-- What each public function promises, written once: its contract names it, and any two outcomes that it allows are equal.
use Rattle.std.specs.Prelude.{List, ◌≡◌, ℕ, Option}
use Rattle.laws.specs.Unique.{Determines, by_equation}
use Rattle.next.specs.Next.{only_unvisited}

abbrev pub OnlyUnvisitedSays : List ℕ → ℕ → Option ℕ → Type 0
OnlyUnvisitedSays state k r = r ≡ only_unvisited state k

pub only_unvisited_once : (state : List ℕ) (k : ℕ) → Determines (OnlyUnvisitedSays state k)
only_unvisited_once state k = by_equation (only_unvisited state k)
