-- The field of ends as the code keeps it: two lists of numbers, by ends.
-- What a walk, the scan and the pass over the nodes promise each other of them.
use Rattle.std.specs.Prelude.{ℕ, ◌*◌, ◌%◌, ◌≤◌, ◌<◌, ◌≡◌, ◌⊎◌, Bool, true, false, List, [], ◌∷◌, eqb, leb, ℤ, length, get_or, Some}
use Rattle.laws.specs.Test.{pick}
use Rattle.turn.specs.Limits.{max_links}
use Rattle.turn.specs.Points.{clockwise}
use Rattle.graph.specs.Graph.{Lent, Graph, graph_of, node_count, point_at}
use Rattle.graph.specs.Fine.{FineLinks}
use Rattle.next.specs.Next.{is_unvisited, only_unvisited, next_link, first_link}
use Rattle.next.specs.Choice.{Mem}
use Rattle.rings.specs.Ends.{a_end, link_of, is_a, far, node_of_end, end_of}
use Rattle.rings.specs.Rings.{Ring}
use Rattle.rings.specs.Linked.{Linked, step_of}
use Rattle.rings.specs.Follow.{Left}
use Rattle.rings.specs.Climb.{AtLast, Above}

-- ---- the two lists
-- At an end of a `Bridge` `nxt` holds the far end of the other entry. At an unskipped end of a `Cross` it holds the next
-- end of the ring and, on top, a mark: one for an end that is not the ring's last, another for the last. `prv` holds,
-- at an unskipped end of a `Cross`, the end before it.
abbrev pub cross_mark : ℕ
cross_mark = 16777216

abbrev pub wrap_mark : ℕ
wrap_mark = 33554432

abbrev pub next_of : List ℕ → ℕ → ℕ
next_of nxt h = get_or nxt h 0 % cross_mark

abbrev pub prev_of : List ℕ → ℕ → ℕ
prev_of prv h = get_or prv h 0

-- h is the ring's last end
abbrev pub wraps_at : List ℕ → ℕ → Bool
wraps_at nxt h = leb wrap_mark (get_or nxt h 0)

-- Rule 1 at a `Bridge`, for a link k whose a is there: `lead` holds 1 where k is named and 2 where the other entry is.
-- Else the other entry stands first, and is named where it and k turn clockwise.
abbrev pub named : Graph → List ℕ → List ℕ → ℕ → ℕ
named g lead nxt k =
    let e : ℕ = link_of (get_or nxt (a_end k) 0) in
    pick (eqb (get_or lead k 0) 1) k (pick (eqb (get_or lead k 0) 2) e (pick (clockwise (g.a e) (g.b e) (g.b k)) e k))

-- ---- what the pass over the nodes leaves at node v
pub record LaidBridge (g : Graph) (v x y : ℕ) (nxt lead : List ℕ) : Type 0 where
  pub onto : get_or nxt (end_of g v x) 0 ≡ far (end_of g v y)
  pub back : get_or nxt (end_of g v y) 0 ≡ far (end_of g v x)
  pub leads : (k : ℕ) → (k ≡ x) ⊎ (k ≡ y) → g.a_node k ≡ v
      → named g lead nxt k ≡ pick (clockwise (g.a x) (g.b x) (g.b y)) x y

pub record LaidCross (g : Graph) (state : List ℕ) (v : ℕ) (nxt prv : List ℕ) : Type 0 where
  pub links : List ℕ
  pub ring : Ring g state v links
  pub linked : Linked g v links (next_of nxt) (prev_of prv)
  pub marked : (k : ℕ) → Mem k links → cross_mark ≤ get_or nxt (end_of g v k) 0
  pub last : AtLast (λ x. wraps_at nxt (end_of g v x)) links

pub record Laid (g : Graph) (state : List ℕ) (v : ℕ) (nxt prv lead : List ℕ) : Type 0 where
  pub bridge : (x y : ℕ) → g.entries v ≡ x ∷ (y ∷ []) → LaidBridge g v x y nxt lead
  pub cross : (length (g.entries v) ≡ 2 → ⊥) → LaidCross g state v nxt prv

-- all nodes are laid, whatever the tops
abbrev pub AllLaid : Lent → List ℕ → List ℕ → List ℕ → List ℕ → Type 0
AllLaid g state nxt prv lead = (top : List ℕ) (v : ℕ) → v < node_count g → Laid (graph_of g top) state v nxt prv lead

-- room for the ends of n links, and for the links; nothing is written for any link yet
pub record Spacious (n nxts prvs leads : ℕ) : Type 0 where
  pub nxt_room : 2 * n ≤ nxts
  pub prv_room : 2 * n ≤ prvs
  pub lead_room : n ≤ leads

abbrev pub Unled : List ℕ → Type 0
Unled lead = (k : ℕ) → get_or lead k 0 ≡ 0

-- the node of end h, by the lists of the links' nodes
abbrev pub end_node : List ℕ → List ℕ → ℕ → ℕ
end_node a_id b_id h = pick (is_a h) (get_or a_id (link_of h) 0) (get_or b_id (link_of h) 0)

-- a list by ends is as it was but for the ends at node v
abbrev pub ElseKept : List ℕ → List ℕ → ℕ → List ℕ → List ℕ → Type 0
ElseKept a_id b_id v old new = (h : ℕ) → (end_node a_id b_id h ≡ v → ⊥) → get_or new h 0 ≡ get_or old h 0

-- a list by links is as it was but for the links whose a is at node v
abbrev pub OthersKept : List ℕ → ℕ → List ℕ → List ℕ → Type 0
OthersKept a_id v old new = (k : ℕ) → (get_or a_id k 0 ≡ v → ⊥) → get_or new k 0 ≡ get_or old k 0

-- ---- what a walk needs
-- states s of which some that were 0 in st have been marked
pub record Later (st s : List ℕ) : Type 0 where
  pub len : length s ≡ length st
  pub stays : (k : ℕ) → get_or st k 0 ≡ 1 → get_or s k 0 ≡ 1
  pub skips : (k : ℕ) → get_or s k 0 ≡ 1 → get_or st k 0 ≡ 1
  pub opens : (k : ℕ) → is_unvisited s k ≡ true → is_unvisited st k ≡ true

-- from end h of a `Bridge` a walk goes on to the far end that `nxt` holds
pub record Across (g : Graph) (nxt : List ℕ) (h : ℕ) : Type 0 where
  pub inside : get_or nxt h 0 < 2 * g.n
  pub node : node_of_end g (far (get_or nxt h 0)) ≡ node_of_end g h
  pub next : (s : List ℕ) (sense : Bool)
      → next_link g sense s (node_of_end g h) (link_of h) ≡ only_unvisited s (link_of (get_or nxt h 0))

-- the lists steer a walk of the graph g: from an end h of an unskipped link, over a `Bridge` or round a `Cross`
pub record Steers (g : Graph) (nxt prv st : List ℕ) : Type 0 where
  pub few : g.n ≤ max_links
  pub size : g.n ≡ length st
  pub nxt_long : 2 * g.n ≤ length nxt
  pub prv_long : 2 * g.n ≤ length prv
  pub nodes : ℕ
  pub links : FineLinks g nodes
  pub only : (v k : ℕ) → Mem k (g.entries v) → (g.a_node k ≡ v) ⊎ (g.b_node k ≡ v)
  pub bridge : (h : ℕ) → link_of h < g.n → (get_or st (link_of h) 0 ≡ 1 → ⊥) → get_or nxt h 0 < cross_mark → Across g nxt h
  pub cross : (h : ℕ) → link_of h < g.n → (get_or st (link_of h) 0 ≡ 1 → ⊥) → (get_or nxt h 0 < cross_mark → ⊥)
      → (s : List ℕ) → Later st s → is_unvisited s (link_of h) ≡ false → (sense : Bool)
      → Left g (node_of_end g h) h (step_of sense (next_of nxt) (prev_of prv)) g.n s
      (next_link g sense s (node_of_end g h) (link_of h)) h

-- there is such a graph
pub record Steered (nxt prv st : List ℕ) : Type 0 where
  pub graph : Graph
  pub steers : Steers graph nxt prv st

-- the points of g stand in these lists
pub record Reads (g : Graph) (ax ay bx by : List ℤ) : Type 0 where
  pub a_is : (k : ℕ) → g.a k ≡ point_at ax ay k
  pub b_is : (k : ℕ) → g.b k ≡ point_at bx by k

-- ---- what rule 1 needs
-- asked again at link k of a `Cross`, in states t, once link f, which it named before, is visited: it is rule 3, clockwise from f's a, which is there
pub record Again (g : Graph) (nxt t : List ℕ) (k f : ℕ) : Type 0 where
  pub below : f < g.n
  pub unskipped : get_or t f 0 ≡ 1 → ⊥
  pub marked : get_or nxt (a_end f) 0 < cross_mark → ⊥
  pub node : g.a_node f ≡ g.a_node k
  pub next : first_link g t k ≡ next_link g true t (g.a_node k) f

pub record Firsts (g : Graph) (nxt lead st : List ℕ) : Type 0 where
  pub few : g.n ≤ max_links
  pub size : g.n ≡ length st
  pub nxt_long : 2 * g.n ≤ length nxt
  pub lead_long : g.n ≤ length lead
  pub bridge : (k : ℕ) → k < g.n → (get_or st k 0 ≡ 1 → ⊥) → get_or nxt (a_end k) 0 < cross_mark
      → (link_of (get_or nxt (a_end k) 0) < g.n)
      × ((s : List ℕ) → first_link g s k ≡ only_unvisited s (named g lead nxt k))
  pub cross : (k : ℕ) → k < g.n → (get_or nxt (a_end k) 0 < cross_mark → ⊥) → (s : List ℕ) → Later st s
      → is_unvisited s k ≡ true → ((x : ℕ) → is_unvisited s x ≡ true → k ≤ x)
      → Above g (g.a_node k) (next_of nxt) (wraps_at nxt) g.n s (first_link g s k) (a_end k) k
  -- it named f in states s, of which some have been marked since; k was the lowest unvisited link then
  pub again : (k : ℕ) → k < g.n → (get_or nxt (a_end k) 0 < cross_mark → ⊥) → (s t : List ℕ) → Later st t → Later s t
      → is_unvisited t k ≡ true → ((x : ℕ) → is_unvisited s x ≡ true → k ≤ x) → (f : ℕ) → first_link g s k ≡ Some f
      → is_unvisited t f ≡ false → Again g nxt t k f

-- there is such a graph
pub record Begun (ax ay bx by : List ℤ) (nxt lead st : List ℕ) : Type 0 where
  pub graph : Graph
  pub firsts : Firsts graph nxt lead st
  pub reads : Reads graph ax ay bx by

-- ---- what the scan needs
pub record Field (g : Graph) (ax ay bx by : List ℤ) (top nxt prv lead st : List ℕ) : Type 0 where
  pub steers : Steers g nxt prv st
  pub firsts : Firsts g nxt lead st
  pub reads : Reads g ax ay bx by
  pub tops : (k : ℕ) → g.top k ≡ eqb (get_or top k 0) 1

-- there is such a graph
pub record Fielded (ax ay bx by : List ℤ) (top nxt prv lead st : List ℕ) : Type 0 where
  pub graph : Graph
  pub field : Field graph ax ay bx by top nxt prv lead st
