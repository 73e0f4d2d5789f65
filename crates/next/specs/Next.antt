-- Visit states, the next link at a node (rule 3) and the first link of a walk (rule 1).
use Rattle.std.specs.Prelude.{ℕ, suc, Bool, not, ◌&&◌, List, [], ◌∷◌, get_or, eqb, Option, Some, None}
use Rattle.laws.specs.Test.{pick}
use Rattle.turn.specs.Points.{clockwise}
use Rattle.turn.specs.Angle.{met_before}
use Rattle.graph.specs.Graph.{Graph}
use Rattle.graph.specs.Checks.{away_from}

-- ---- states: 0 unvisited, 1 skipped, 2 walked in a hole, 3 walked in a hull

-- link k is unvisited
abbrev pub is_unvisited : List ℕ → ℕ → Bool
is_unvisited st k = eqb (get_or st k 1) 0

-- the unvisited links of a list
abbrev pub unvisited_in : List ℕ → List ℕ → List ℕ
unvisited_in st [] = []
unvisited_in st (x ∷ l) = pick (is_unvisited st x) (x ∷ unvisited_in st l) (unvisited_in st l)

-- how many links are unvisited
abbrev pub unvisited : List ℕ → ℕ
unvisited [] = 0
unvisited (x ∷ st) = pick (eqb x 0) (suc (unvisited st)) (unvisited st)

-- a link that the rule names, if it is unvisited
abbrev pub only_unvisited : List ℕ → ℕ → Option ℕ
only_unvisited st k = pick (is_unvisited st k) (Some k) None

-- ---- nodes

-- "A node with two entries is a `Bridge`, any other a `Cross`."
pub data Node : Type 0 where
  bridge : ℕ → ℕ → Node
  crossing : List ℕ → Node

abbrev pub node_of : List ℕ → Node
node_of [] = crossing []
node_of (x ∷ []) = crossing (x ∷ [])
node_of (x ∷ (y ∷ [])) = bridge x y
node_of (x ∷ (y ∷ (z ∷ l))) = crossing (x ∷ (y ∷ (z ∷ l)))

-- the node at link k's other end
abbrev pub other : Graph → ℕ → ℕ → ℕ
other g v k = pick (eqb (g.a_node k) v) (g.b_node k) (g.a_node k)

-- ---- rule 3: the next link

-- turning at node v from link e, clockwise if the sense is true, link f is met strictly before link h
abbrev pub met_first : Graph → Bool → ℕ → ℕ → ℕ → ℕ → Bool
met_first g sense v e f h = met_before sense (away_from g v e) (away_from g v f) (away_from g v h)

-- c, or whatever of a list is met before it
abbrev pub best : (ℕ → ℕ → Bool) → ℕ → List ℕ → ℕ
best lt c [] = c
best lt c (x ∷ l) = best lt (pick (lt x c) x c) l

-- the first met of a list
abbrev pub first_met : (ℕ → ℕ → Bool) → List ℕ → Option ℕ
first_met lt [] = None
first_met lt (x ∷ l) = Some (best lt x l)

-- at a `Bridge` with entries x and y: the one that is not e
abbrev pub across_from : List ℕ → ℕ → ℕ → ℕ → Option ℕ
across_from st e x y = only_unvisited st (pick (eqb x e) y x)

-- "Next link at a `Bridge`: the other entry. At a `Cross`: of the unvisited links, the first met when turning from the
-- link just walked, clockwise if the sense is true."
abbrev pub next_at : Graph → Bool → List ℕ → ℕ → ℕ → Node → Option ℕ
next_at g sense st v e (bridge x y) = across_from st e x y
next_at g sense st v e (crossing l) = first_met (met_first g sense v e) (unvisited_in st l)

unfoldable pub next_link : Graph → Bool → List ℕ → ℕ → ℕ → Option ℕ
next_link g sense st v e = next_at g sense st v e (node_of (g.entries v))

-- ---- rule 1: the first link

-- "an entry other than k replaces the choice unless it is visited, skipped, or its b is strictly clockwise of the choice"
abbrev pub replaces : Graph → List ℕ → ℕ → ℕ → ℕ → Bool
replaces g st k c x = not (eqb x k) && is_unvisited st x && not (clockwise (g.a c) (g.b c) (g.b x))

abbrev pub topmost : Graph → List ℕ → ℕ → ℕ → List ℕ → ℕ
topmost g st k c [] = c
topmost g st k c (x ∷ l) = topmost g st k (pick (replaces g st k c x) x c) l

-- "A `Bridge` with entries l0, l1 gives l0 if l0.a, l0.b, l1.b turn strictly clockwise, else l1. A `Cross` starts from k and goes through its list."
abbrev pub first_at : Graph → List ℕ → ℕ → Node → Option ℕ
first_at g st k (bridge x y) = only_unvisited st (pick (clockwise (g.a x) (g.b x) (g.b y)) x y)
first_at g st k (crossing l) = Some (topmost g st k k l)

-- the first link of the walk that the scan starts at link k
unfoldable pub first_link : Graph → List ℕ → ℕ → Option ℕ
first_link g st k = first_at g st k (node_of (g.entries (g.a_node k)))
