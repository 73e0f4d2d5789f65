-- Checks 1 to 7: each condition of document 01's table as a test, in its words, and their order.
-- What the shared graph alone decides reads `Lent`; what one band's tops, states and contour room decide stands apart.
use Rattle.std.specs.Prelude.{ℕ, ◌+◌, ◌-◌, ◌/◌, Bool, not, ◌||◌, ◌&&◌, List, ltb, leb, eqb, length, get_or}
use Rattle.laws.specs.Test.{pick}
use Rattle.laws.specs.Lowest.{some}
use Rattle.turn.specs.declared.Point.{Point}
use Rattle.turn.specs.declared.Vector.{Vector}
use Rattle.turn.specs.Limits.{max_links}
use Rattle.turn.specs.Points.{before, differ, off_grid, from_to}
use Rattle.turn.specs.Angle.{same_direction}
use Rattle.turn.specs.Refusals.{refuse_if, refuse_at, followed_by, Checked, no_fault}
use Rattle.graph.specs.Graph.{Lent, Graph, link_count, node_count, point_at, part}
use Rattle.laws.specs.Count.{count}
use Rattle.turn.specs.declared.Reason.TheVariants.{TooManyLinks, WrongLengths, WrongLink, LinksOutOfOrder, WrongNodes, EndsApart, EndsAlike}

-- What is lent for the answer, by length: the points' buffer, two numbers to a point, and the three lists of the contour table.
pub record Room : Type 0 where
  pub points : ℕ
  pub firsts : ℕ
  pub lens : ℕ
  pub kinds : ℕ

abbrev pub room : ℕ → ℕ → ℕ → ℕ → Room
room points firsts lens kinds = record { points = points; firsts = firsts; lens = lens; kinds = kinds }

-- the points of a link, the node of its end (of those that a list of ids has), and the entries of a node
abbrev pub a_of : Lent → ℕ → Point
a_of g = point_at g.ax g.ay

abbrev pub b_of : Lent → ℕ → Point
b_of g = point_at g.bx g.by

abbrev pub node_at : List ℕ → ℕ → ℕ
node_at ids k = get_or ids k 0

abbrev pub entries_of : Lent → ℕ → List ℕ
entries_of g = part g.start g.list

-- ---- 2, of the shared graph: "parallel lists differ in length; no start at all"
abbrev pub unlike : Lent → Bool
unlike g =
    not (eqb (length g.ax) (link_count g)) ||
    not (eqb (length g.ay) (link_count g)) ||
    not (eqb (length g.bx) (link_count g)) ||
    not (eqb (length g.by) (link_count g)) ||
    not (eqb (length g.b_id) (link_count g)) ||
    eqb (length g.start) 0

-- "room below n points"
abbrev pub few_points : ℕ → ℕ → Bool
few_points n points = ltb (points / 2) n

-- 2, of one band: tops are a parallel list; "states not n long"
abbrev pub unlike_band : ℕ → List ℕ → List ℕ → Bool
unlike_band n top state = not (eqb (length top) n) || not (eqb (length state) n)

-- the table's lists differ in length; "or below n/3 rounded down contours"
abbrev pub few_contours : ℕ → ℕ → ℕ → ℕ → Bool
few_contours n firsts lens kinds = not (eqb lens firsts) || not (eqb kinds firsts) || ltb firsts (n / 3)

-- ---- 3, of the shared graph: "coordinate outside -524,288 to 524,288; a not strictly before b"
abbrev pub misplaced : Point → Point → Bool
misplaced a b = off_grid a || off_grid b || not (before a b)

-- "node id not below m; both ids equal"
abbrev pub misnamed : ℕ → ℕ → ℕ → Bool
misnamed m a_id b_id = leb m a_id || leb m b_id || eqb a_id b_id

abbrev pub link_fault : Lent → ℕ → Bool
link_fault g k = misplaced (a_of g k) (b_of g k) || misnamed (node_count g) (node_at g.a_id k) (node_at g.b_id k)

-- 3, of one band: "top or state not 0 or 1"
abbrev pub misflagged : ℕ → ℕ → Bool
misflagged top state = ltb 1 top || ltb 1 state

abbrev pub flag_fault : List ℕ → List ℕ → ℕ → Bool
flag_fault top state k = misflagged (get_or top k 0) (get_or state k 0)

-- the one pass over both
abbrev pub link_wrong : Lent → List ℕ → List ℕ → ℕ → Bool
link_wrong g top state k = link_fault g k || flag_fault top state k

-- ---- 4, of the shared graph: "a link's a is before the previous link's a"
abbrev pub out_of_order : (ℕ → Point) → ℕ → Bool
out_of_order a k = ltb 0 k && before (a k) (a (k - 1))

-- ---- 5, of the shared graph: "starts not from 0, falling, or not ending at the list's length; a node with under 2 entries"
-- (the next start falls, or is 0 or 1 past this one)
abbrev pub short : List ℕ → ℕ → Bool
short start v = ltb (get_or start (v + 1) 0) (get_or start v 0 + 2)

abbrev pub bad_starts : List ℕ → List ℕ → Bool
bad_starts start list =
    not (eqb (get_or start 0 0) 0) ||
    not (eqb (get_or start (length start - 1) 0) (length list)) ||
    some (short start) (length start - 1)

-- "and nothing else": e is no link with an end at node v
abbrev pub stray : List ℕ → List ℕ → ℕ → ℕ → Bool
stray a_id b_id v e = leb (length a_id) e || (not (eqb (get_or a_id e 0) v) && not (eqb (get_or b_id e 0) v))

-- such an e stands in the list of node v
abbrev pub stray_in : List ℕ → List ℕ → List ℕ → ℕ → Bool
stray_in a_id b_id entries v = some (λ i. stray a_id b_id v (get_or entries i 0)) (length entries)

abbrev pub stray_at : List ℕ → List ℕ → List ℕ → List ℕ → ℕ → Bool
stray_at a_id b_id start list v = stray_in a_id b_id (part start list v) v

-- "each link exactly once at its a node and once at its b node"
abbrev pub not_once : List ℕ → List ℕ → ℕ → ℕ → Bool
not_once start list k v = not (eqb (count k (part start list v)) 1)

abbrev pub missed : List ℕ → List ℕ → List ℕ → List ℕ → ℕ → Bool
missed a_id b_id start list k = not_once start list k (node_at a_id k) || not_once start list k (node_at b_id k)

abbrev pub bad_nodes : List ℕ → List ℕ → List ℕ → List ℕ → Bool
bad_nodes a_id b_id start list =
    bad_starts start list ||
    some (stray_at a_id b_id start list) (length start - 1) ||
    some (missed a_id b_id start list) (length a_id)

-- ---- 6 and 7 look at the ends at a node: two of n places pass the test
abbrev pub some_two : (ℕ → ℕ → Bool) → ℕ → Bool
some_two test n = some (λ j. some (λ i. test i j) j) n

-- the point of link k's end at node v, by the links' points a and b and their a nodes; with a and b swapped, of its other end
abbrev pub end_at : (ℕ → Point) → (ℕ → Point) → (ℕ → ℕ) → ℕ → ℕ → Point
end_at a b a_node v k = pick (eqb (a_node k) v) (a k) (b k)

-- the way that link k runs from node v
abbrev pub away : (ℕ → Point) → (ℕ → Point) → (ℕ → ℕ) → ℕ → ℕ → Vector
away a b a_node v k = pick (eqb (a_node k) v) (from_to (a k) (b k)) (from_to (b k) (a k))

abbrev pub away_from : Graph → ℕ → ℕ → Vector
away_from g = away g.a g.b g.a_node

-- 6, of the shared graph: "two ends at one node have different points"
abbrev pub apart : (ℕ → Point) → (ℕ → Point) → (ℕ → ℕ) → ℕ → ℕ → ℕ → Bool
apart a b a_node v e f = differ (end_at a b a_node v e) (end_at a b a_node v f)

abbrev pub apart_in : (ℕ → Point) → (ℕ → Point) → (ℕ → ℕ) → List ℕ → ℕ → Bool
apart_in a b a_node entries v = some_two (λ i j. apart a b a_node v (get_or entries i 0) (get_or entries j 0)) (length entries)

abbrev pub apart_at : (ℕ → Point) → (ℕ → Point) → (ℕ → ℕ) → (ℕ → List ℕ) → ℕ → Bool
apart_at a b a_node entries v = apart_in a b a_node (entries v) v

-- 7, of one band: "two unskipped links with an end at one node run from it in the same direction"
abbrev pub skipped : List ℕ → ℕ → Bool
skipped state k = eqb (get_or state k 0) 1

abbrev pub alike : (ℕ → Point) → (ℕ → Point) → (ℕ → ℕ) → List ℕ → ℕ → ℕ → ℕ → Bool
alike a b a_node state v e f = not (skipped state e) && not (skipped state f) && same_direction (away a b a_node v e) (away a b a_node v f)

abbrev pub alike_at : (ℕ → Point) → (ℕ → Point) → (ℕ → ℕ) → List ℕ → (ℕ → List ℕ) → ℕ → Bool
alike_at a b a_node state entries v = some_two (λ i j. alike a b a_node state v (get_or (entries v) i 0) (get_or (entries v) j 0)) (length (entries v))

-- ---- the order: each check "over all the input before the next"

-- 3 and 4, of each link
unfoldable pub each_checked : Lent → List ℕ → List ℕ → Checked
each_checked g top state =
    refuse_at WrongLink (link_wrong g top state) (link_count g)
    (refuse_at LinksOutOfOrder (out_of_order (a_of g)) (link_count g)
    no_fault)

-- 1 to 4, of all that is said of the links; 1 is "n above 4,096"
unfoldable pub links_checked : Lent → List ℕ → List ℕ → Room → Checked
links_checked g top state r =
    refuse_if TooManyLinks (ltb max_links (link_count g))
    (refuse_if WrongLengths
    (unlike g || few_points (link_count g) r.points || unlike_band (link_count g) top state || few_contours (link_count g) r.firsts r.lens r.kinds)
    (each_checked g top state))

-- 5 to 7, of the nodes
unfoldable pub nodes_checked : Lent → List ℕ → Checked
nodes_checked g state =
    refuse_if WrongNodes (bad_nodes g.a_id g.b_id g.start g.list)
    (refuse_at EndsApart (apart_at (a_of g) (b_of g) (node_at g.a_id) (entries_of g)) (node_count g)
    (refuse_at EndsAlike (alike_at (a_of g) (b_of g) (node_at g.a_id) state (entries_of g)) (node_count g)
    no_fault))

unfoldable pub checked : Lent → List ℕ → List ℕ → Room → Checked
checked g top state r = followed_by (links_checked g top state r) (nodes_checked g state)
