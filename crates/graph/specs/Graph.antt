-- The lent graph: the lists as they are lent, and what they say of a link and of a node.
use Rattle.std.specs.Prelude.{ℕ, ◌+◌, ◌-◌, Bool, List, eqb, ℤ, pos, length, get_or, take, drop}
use Rattle.turn.specs.declared.Point.{Point}

-- What is lent of the graph alone, without tops and states, so that two bands may share it: at a number k each of the first six lists has its part of link k;
-- the link numbers of node v stand in `list` from `start v` up to `start (v + 1)`.
pub record Lent : Type 0 where
  pub ax : List ℤ
  pub ay : List ℤ
  pub bx : List ℤ
  pub by : List ℤ
  pub a_id : List ℕ
  pub b_id : List ℕ
  pub start : List ℕ
  pub list : List ℕ

abbrev pub lent : List ℤ → List ℤ → List ℤ → List ℤ → List ℕ → List ℕ → List ℕ → List ℕ → Lent
lent ax ay bx by a_id b_id start list = record { ax = ax; ay = ay; bx = bx; by = by; a_id = a_id; b_id = b_id; start = start; list = list }

-- "n is the length of the list of a's node ids"; "start positions (m + 1 of them)"
abbrev pub link_count : Lent → ℕ
link_count g = length g.a_id

abbrev pub node_count : Lent → ℕ
node_count g = length g.start - 1

abbrev pub point_at : List ℤ → List ℤ → ℕ → Point
point_at xs ys k = record { x = get_or xs k (pos 0); y = get_or ys k (pos 0) }

-- node v's part of the list
abbrev pub part : List ℕ → List ℕ → ℕ → List ℕ
part start list v = take (get_or start (v + 1) 0 - get_or start v 0) (drop (get_or start v 0) list)

-- The graph as the rules of walking read it: n links, link k from its point `a k` at node `a_node k` to its point `b k`
-- at node `b_node k`, filled on its left where `top k`;
-- the entries of node v are the links with an end there. A node with two entries is a `Bridge`, any other a `Cross`.
pub record Graph : Type 0 where
  pub n : ℕ
  pub a : ℕ → Point
  pub b : ℕ → Point
  pub a_node : ℕ → ℕ
  pub b_node : ℕ → ℕ
  pub top : ℕ → Bool
  pub entries : ℕ → List ℕ

-- the graph that is lent, with its tops
abbrev pub graph_of : Lent → List ℕ → Graph
graph_of g top = record {
  n = link_count g;
  a = point_at g.ax g.ay;
  b = point_at g.bx g.by;
  a_node = λ k. get_or g.a_id k 0;
  b_node = λ k. get_or g.b_id k 0;
  top = λ k. eqb (get_or top k 0) 1;
  entries = part g.start g.list;
}
