-- What functions require of the links that they are lent, and what they tell of the link that they name.
use Rattle.std.specs.Prelude.{ℕ, ◌<◌, ◌≡◌, List, ℤ, length, get_or, Option, Some, None}
use Rattle.turn.specs.Points.{OnGrid}
use Rattle.graph.specs.Graph.{point_at}

-- n links, their points on the grid
pub record Links (ax ay bx by : List ℤ) (n : ℕ) : Type 0 where
  pub ax_long : length ax ≡ n
  pub ay_long : length ay ≡ n
  pub bx_long : length bx ≡ n
  pub by_long : length by ≡ n
  pub a_grid : (k : ℕ) → k < n → OnGrid (point_at ax ay k)
  pub b_grid : (k : ℕ) → k < n → OnGrid (point_at bx by k)

-- an unvisited link, or nothing
abbrev pub NamesUnvisited : List ℕ → Option ℕ → Type 0
NamesUnvisited st None = Unit
NamesUnvisited st (Some k) = (k < length st) × (get_or st k 1 ≡ 0)
