-- What the earlier checks tell the later ones, as these require it.
use Rattle.std.specs.Prelude.{ℕ, ◌-◌, ◌<◌, ◌≡◌, true, List, ℤ, length, get_or}
use Rattle.turn.specs.Points.{before, OnGrid}
use Rattle.graph.specs.Graph.{point_at, part}

-- the lists of the points are n long
pub record Points (ax ay bx by : List ℤ) (n : ℕ) : Type 0 where
  pub ax_long : length ax ≡ n
  pub ay_long : length ay ≡ n
  pub bx_long : length bx ≡ n
  pub by_long : length by ≡ n

-- and within the bounds
pub record Grids (ax ay bx by : List ℤ) (n : ℕ) : Type 0 where
  pub a_grid : (k : ℕ) → k < n → OnGrid (point_at ax ay k)
  pub b_grid : (k : ℕ) → k < n → OnGrid (point_at bx by k)

-- every link has its ends at two nodes below m
pub record Ids (a_id b_id : List ℕ) (m : ℕ) : Type 0 where
  pub same : length b_id ≡ length a_id
  pub a_below : (k : ℕ) → k < length a_id → get_or a_id k 0 < m
  pub b_below : (k : ℕ) → k < length a_id → get_or b_id k 0 < m
  pub two : (k : ℕ) → k < length a_id → get_or a_id k 0 ≡ get_or b_id k 0 → ⊥

-- of every link a is strictly before b, and its ends are at two nodes
pub record Runs (ax ay bx by : List ℤ) (a_id b_id : List ℕ) : Type 0 where
  pub same : length b_id ≡ length a_id
  pub strict : (k : ℕ) → k < length a_id → before (point_at ax ay k) (point_at bx by k) ≡ true
  pub two : (k : ℕ) → k < length a_id → get_or a_id k 0 ≡ get_or b_id k 0 → ⊥

-- with a and b swapped
pub points_swapped : {ax ay bx by : List ℤ} {n : ℕ} → Points ax ay bx by n → Points bx by ax ay n
points_swapped p = record { ax_long = p.bx_long; ay_long = p.by_long; bx_long = p.ax_long; by_long = p.ay_long }

pub grids_swapped : {ax ay bx by : List ℤ} {n : ℕ} → Grids ax ay bx by n → Grids bx by ax ay n
grids_swapped p = record { a_grid = p.b_grid; b_grid = p.a_grid }

-- every number of a list is below n
abbrev pub Below : List ℕ → ℕ → Type 0
Below l n = (i : ℕ) → i < length l → get_or l i 0 < n

-- every entry of every node is below n
abbrev pub Entries : List ℕ → List ℕ → ℕ → Type 0
Entries start list n = (v : ℕ) → v < length start - 1 → Below (part start list v) n
