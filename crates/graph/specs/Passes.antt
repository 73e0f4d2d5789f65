-- What checks 1 to 7 ask of a graph, in plain quantifiers: for every link, for every node, for every two entries of a node.
use Rattle.std.specs.Prelude.{ℕ, ◌+◌, ◌-◌, ◌/◌, ◌≤◌, ◌<◌, ◌≡◌, true, false, ◌⊎◌, List, length, get_or}
use Rattle.turn.specs.declared.Point.{Point}
use Rattle.turn.specs.declared.Vector.{Vector}
use Rattle.turn.specs.Limits.{max_links}
use Rattle.turn.specs.Points.{before, OnGrid}
use Rattle.turn.specs.Angle.{same_direction}
use Rattle.graph.specs.Graph.{Lent, link_count, node_count}
use Rattle.laws.specs.Count.{count}
use Rattle.graph.specs.Checks.{Room, a_of, b_of, node_at, entries_of, end_at, away}

-- the lists of the links are of one length
pub record Even (g : Lent) : Type 0 where
  pub ax : length g.ax ≡ link_count g
  pub ay : length g.ay ≡ link_count g
  pub bx : length g.bx ≡ link_count g
  pub by : length g.by ≡ link_count g
  pub b_id : length g.b_id ≡ link_count g

-- the starts go from 0 to the list's length, and leave each node two entries or more
pub record Rising (start list : List ℕ) : Type 0 where
  pub any : 1 ≤ length start
  pub first : get_or start 0 0 ≡ 0
  pub last : get_or start (length start - 1) 0 ≡ length list
  pub step : (v : ℕ) → v < length start - 1 → get_or start v 0 + 2 ≤ get_or start (v + 1) 0

-- e is a link with an end at node v
pub record EndAt (a_id b_id : List ℕ) (v e : ℕ) : Type 0 where
  pub below : e < length a_id
  pub end : (get_or a_id e 0 ≡ v) ⊎ (get_or b_id e 0 ≡ v)

-- entry i of node v
abbrev pub entry : Lent → ℕ → ℕ → ℕ
entry g v i = get_or (entries_of g v) i 0

-- the point of link k's end at node v, and the way that link k runs from there
abbrev pub end_point_of : Lent → ℕ → ℕ → Point
end_point_of g = end_at (a_of g) (b_of g) (node_at g.a_id)

abbrev pub away_of : Lent → ℕ → ℕ → Vector
away_of g = away (a_of g) (b_of g) (node_at g.a_id)

-- What is asked of the shared graph.
pub record SharedPasses (g : Lent) (points : ℕ) : Type 0 where
  -- 1
  pub few : link_count g ≤ max_links
  -- 2
  pub even : Even g
  pub room : link_count g ≤ points / 2
  -- 3
  pub a_grid : (k : ℕ) → k < link_count g → OnGrid (a_of g k)
  pub b_grid : (k : ℕ) → k < link_count g → OnGrid (b_of g k)
  pub strict : (k : ℕ) → k < link_count g → before (a_of g k) (b_of g k) ≡ true
  pub a_node_lem : (k : ℕ) → k < link_count g → get_or g.a_id k 0 < node_count g
  pub b_node_lem : (k : ℕ) → k < link_count g → get_or g.b_id k 0 < node_count g
  pub two_nodes : (k : ℕ) → k < link_count g → get_or g.a_id k 0 ≡ get_or g.b_id k 0 → ⊥
  -- 4
  pub order : (k : ℕ) → k + 1 < link_count g → before (a_of g (k + 1)) (a_of g k) ≡ false
  -- 2 and 5
  pub rising : Rising g.start g.list
  -- 5
  pub ends : (v i : ℕ) → v < node_count g → i < length (entries_of g v) → EndAt g.a_id g.b_id v (entry g v i)
  pub once_a : (k : ℕ) → k < link_count g → count k (entries_of g (get_or g.a_id k 0)) ≡ 1
  pub once_b : (k : ℕ) → k < link_count g → count k (entries_of g (get_or g.b_id k 0)) ≡ 1
  -- 6
  pub one_point : (v i j : ℕ) → v < node_count g → i < length (entries_of g v) → j < length (entries_of g v) → end_point_of g v (entry g v i)
      ≡ end_point_of g v (entry g v j)

-- What is asked of one band's tops, states and contour room.
pub record BandPasses (g : Lent) (top state : List ℕ) (firsts lens kinds : ℕ) : Type 0 where
  -- 2
  pub top_long : length top ≡ link_count g
  pub state_long : length state ≡ link_count g
  pub lens_long : lens ≡ firsts
  pub kinds_long : kinds ≡ firsts
  pub room : link_count g / 3 ≤ firsts
  -- 3
  pub top_flag : (k : ℕ) → k < link_count g → get_or top k 0 ≤ 1
  pub state_flag : (k : ℕ) → k < link_count g → get_or state k 0 ≤ 1
  -- 7
  pub spread : (v i j : ℕ) → v < node_count g → i < j → j < length (entries_of g v)
      → (get_or state (entry g v i) 0 ≡ 1 → ⊥) → (get_or state (entry g v j) 0 ≡ 1 → ⊥) → same_direction (away_of g v (entry g v i))
      (away_of g v (entry g v j)) ≡ false

pub record Passes (g : Lent) (top state : List ℕ) (r : Room) : Type 0 where
  pub shared : SharedPasses g r.points
  pub band : BandPasses g top state r.firsts r.lens r.kinds
