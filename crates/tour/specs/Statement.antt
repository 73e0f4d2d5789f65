-- The third demand: what it asks of a graph, and what is then true of all walks. Beside standard symbols it names only what extraction is defined by:
-- the lent graph, visit states and rule 3's test, the scan with its walks, their points and areas.
use Rattle.std.specs.Prelude.{ℕ, zero, suc, ◌+◌, ◌≡◌, Bool, true, false, not, eqb, ℤ, pos, ◌+ℤ◌}
use Rattle.std.specs.Bool.{beq}
use mathlib.Core.List.{List, [], ◌∷◌, ◌++◌, map, Memᴰ}
use Rattle.laws.specs.Test.{pick}
use Rattle.turn.specs.declared.Point.{Point}
use Rattle.turn.specs.Area.{wedge}
use Rattle.graph.specs.Graph.{Lent, Graph, graph_of}
use Rattle.laws.specs.Count.{count}
use Rattle.graph.specs.Checks.{Room, checked}
use Rattle.next.specs.Next.{is_unvisited, unvisited_in, met_first}
use Rattle.walk.specs.Walk.{Step, Walk, left}
use Rattle.scan.specs.Scan.{walks, scan}
use Rattle.keep.specs.Outcome.{states_after, areas, total}
use Rattle.turn.specs.Refusals.{no_fault}

-- ---- What is asked: clockwise round every node the unskipped links come by turns as arriving and leaving, as many of one as of the other.

-- "Top 1 means filled on the left of a to b." Link k, directed with its filled side on the left, leaves node v; else it arrives there.
abbrev pub leaves : Graph → ℕ → ℕ → Bool
leaves g v k = eqb (pick (g.top k) (g.a_node k) (g.b_node k)) v

-- turning clockwise at node v from link e, the links of a list are met one after the other
abbrev pub InOrder : Graph → ℕ → ℕ → List ℕ → Type 0
InOrder g v e [] = Unit {0}
InOrder g v e (x ∷ []) = Unit {0}
InOrder g v e (x ∷ (y ∷ l)) = (met_first g true v e x y ≡ true) × InOrder g v e (y ∷ l)

-- the list goes clockwise round node v: turning from its first link, the others are met one after the other
abbrev pub Clockwise : Graph → ℕ → List ℕ → Type 0
Clockwise g v [] = Unit {0}
Clockwise g v (e ∷ l) = InOrder g v e l

-- by turns: each is not what the one before it is
abbrev pub ByTurns : List Bool → Type 0
ByTurns [] = Unit {0}
ByTurns (a ∷ []) = Unit {0}
ByTurns (a ∷ (b ∷ l)) = (b ≡ not a) × ByTurns (b ∷ l)

abbrev pub how_many : Bool → List Bool → ℕ
how_many a [] = 0
how_many a (b ∷ l) = pick (beq a b) 1 0 + how_many a l

pub record TurnsAt (g : Graph) (st : List ℕ) (v : ℕ) : Type 0 where
  -- a list of links
  pub round : List ℕ
  -- that holds the unskipped links at node v, each as often as the node does
  pub these : (k : ℕ) → count k round ≡ count k (unvisited_in st (g.entries v))
  -- goes clockwise round the node
  pub clockwise : Clockwise g v round
  -- by turns leaves and arrives
  pub by_turns : ByTurns (map (leaves g v) round)
  -- and leaves as often as it arrives
  pub as_many : how_many true (map (leaves g v) round) ≡ how_many false (map (leaves g v) round)

abbrev pub ComesByTurns : Graph → List ℕ → Type 0
ComesByTurns g st = (v : ℕ) → TurnsAt g st v

-- ---- What is then true of all walks.

-- filled on the left of the way in which it is walked
abbrev pub fill_on_left : Graph → Step → Bool
fill_on_left g s = beq (g.top s.link) s.forward

-- the node that a step leaves, and the one that it reaches
abbrev pub node_left : Graph → Step → ℕ
node_left g s = pick s.forward (g.a_node s.link) (g.b_node s.link)

abbrev pub node_reached : Graph → Step → ℕ
node_reached g s = pick s.forward (g.b_node s.link) (g.a_node s.link)

-- steps from node v to node u, each from where the one before it came
abbrev pub Line : Graph → ℕ → List Step → ℕ → Type 0
Line g v [] u = v ≡ u
Line g v (s ∷ l) u = (node_left g s ≡ v) × Line g (node_reached g s) l u

-- a walk that ends at the node where it began
abbrev pub Closed : Graph → Walk → Type 0
Closed g w = (v : ℕ) × Line g v w.steps v

-- the links walked, in order
abbrev pub links_of : List Walk → List ℕ
links_of [] = []
links_of (w ∷ ws) = map (λ s. s.link) w.steps ++ links_of ws

-- the point that a step reaches (`left` is the one that it leaves)
abbrev pub reached : Graph → Step → Point
reached g s = pick s.forward (g.b s.link) (g.a s.link)

-- link k in the walking direction: with its filled side on the left, for clockwise output on the right
abbrev pub directed : Graph → Bool → ℕ → Step
directed g cw k = record { link = k; forward = beq (g.top k) (not cw) }

-- what a link from p to q in the walking direction adds: px·qy - py·qx
abbrev pub adds : Graph → Bool → ℕ → ℤ
adds g cw k = wedge (left g (directed g cw k)) (reached g (directed g cw k))

-- f 0 + f 1 + .. + f (n - 1)
abbrev pub sum_of : ℕ → (ℕ → ℤ) → ℤ
sum_of zero f = pos 0
sum_of (suc n) f = f 0 +ℤ sum_of n (λ k. f (suc k))

-- the total over the unskipped links
abbrev pub link_total : Graph → Bool → List ℕ → ℤ
link_total g cw st = sum_of g.n (λ k. pick (is_unvisited st k) (adds g cw k) (pos 0))

pub record Toured (g : Graph) (cw : Bool) (st : List ℕ) : Type 0 where
  pub found : List Walk
  -- no walk is refused: the scan ends with all its walks, and leaves the states that they give
  pub done : scan g cw st ≡ walks found (states_after found st)
  -- each unskipped link is walked exactly once, and no other link
  pub once : (k : ℕ) → count k (links_of found) ≡ pick (is_unvisited st k) 1 0
  -- with fill on the left, for clockwise output on the right
  pub fill : (w : Walk) → Memᴰ w found → (s : Step) → Memᴰ s w.steps → fill_on_left g s ≡ not cw
  -- every walk is closed
  pub closed : (w : Walk) → Memᴰ w found → Closed g w
  -- the signed doubled areas of all walks, rejected ones included, sum to the total over the links
  pub area : total (areas g found) ≡ link_total g cw st

-- ---- The demand, of every graph that is lent, both directions of output and any room for the answer: where checks 1 to 7 find nothing wrong.
abbrev pub ThirdDemand : Type 0
ThirdDemand =
    (g : Lent) (top st : List ℕ) (r : Room) (cw : Bool) → checked g top st r ≡ no_fault → ComesByTurns (graph_of g top) st → Toured (graph_of g top) cw st
