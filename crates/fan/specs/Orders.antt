-- The one comparison of the sort: which of two links stands later in the ring, by the links alone; and what the sort needs of a list.
use Rattle.std.specs.Prelude.{ℕ, ◌+◌, ◌-◌, ◌≤◌, ◌<◌, Bool, List, [], ℤ, length, get_or}
use Rattle.laws.specs.Lowest.{some}
use Rattle.turn.specs.Limits.{max_links}
use Rattle.graph.specs.Graph.{Graph, lent, graph_of}
use Rattle.graph.specs.Known.{Points, Grids, Below}
use Rattle.rings.specs.RingOrder.{ring_before}
use Rattle.fan.specs.Rearranged.{Rearranged, each_before}

-- the links without any list of a node, without tops: the ring order reads no more
abbrev pub links_alone : List ℤ → List ℤ → List ℤ → List ℤ → List ℕ → Graph
links_alone ax ay bx by a_id = graph_of (lent ax ay bx by a_id [] [] []) []

-- link e stands later in the ring of node v than link f
abbrev pub stands_later : List ℤ → List ℤ → List ℤ → List ℤ → List ℕ → ℕ → ℕ → ℕ → Bool
stands_later ax ay bx by a_id v e f = ring_before (links_alone ax ay bx by a_id) v f e

-- some entry stands later than the one after it
abbrev pub out_of_order : List ℤ → List ℤ → List ℤ → List ℤ → List ℕ → ℕ → List ℕ → Bool
out_of_order ax ay bx by a_id v l = some (λ i. stands_later ax ay bx by a_id v (get_or l i 0) (get_or l (i + 1) 0)) (length l - 1)

-- a list of links that can be compared
pub record Sortable (ax ay bx by : List ℤ) (a_id l : List ℕ) : Type 0 where
  pub points : Points ax ay bx by (length a_id)
  pub grids : Grids ax ay bx by (length a_id)
  pub links : Below l (length a_id)
  pub few : length l ≤ max_links

pub still_sortable : {ax ay bx by : List ℤ} {a_id l m : List ℕ} → Sortable ax ay bx by a_id l → Rearranged l m → Sortable ax ay bx by a_id m
still_sortable {a_id = a_id} s r = record {
  points = s.points;
  grids = s.grids;
  links = each_before r (λ (x : ℕ). x < length a_id) s.links;
  few = rw r.len s.few;
}
