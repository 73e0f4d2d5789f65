-- The edges of a table as the code has them, in parallel lists.
use Rattle.std.specs.Prelude.{ℕ, ◌+◌, ◌*◌, ◌≤◌, ◌<◌, ◌≡◌, Bool, List, [], length, get_or, ℤ}
use Rattle.turn.specs.Limits.{max_links}
use Rattle.turn.specs.Points.{Grid}
use Rattle.table.specs.TableChecks.{start_in}
use Rattle.table.specs.Fronts.{KeptFrom}
use Rattle.table.specs.Table.{Table, table, point_in, first_of, range_end, contour_of, next_in, next}
use Rattle.edges.specs.declared.Edge.{Edge}
use Rattle.candidates.specs.declared.Edges.{Edges}
use Rattle.candidates.specs.Candidates.{edge_of}

-- Edge k begins at point k. `next` is the point after it round its contour, `of` its contour, `kind` a contour's kind;
-- `right` says which way candidates are walked.
pub record EdgeLists : Type 0 where
  pub points : List ℤ
  pub next : List ℕ
  pub of : List ℕ
  pub kind : List ℕ
  pub right : Bool

abbrev pub edge_lists : List ℤ → List ℕ → List ℕ → List ℕ → Bool → EdgeLists
edge_lists p n o k r = record { points = p; next = n; of = o; kind = k; right = r }

-- the lists of the code's `Edges`
abbrev pub lists_of : Edges → EdgeLists
lists_of e = edge_lists e.points.now e.next.now e.of.now e.kind.now e.right

unfoldable pub listed_edge : EdgeLists → ℕ → Edge
listed_edge g k =
    let c = get_or g.of k 0 in
    edge_of g.right (point_in g.points k) (point_in g.points (get_or g.next k 0)) (get_or g.kind c 0) c

-- ---- what the code is told
-- n edges, whose points lie within the bounds, of contours that have a kind
pub record Fit (g : EdgeLists) (n : ℕ) : Type 0 where
  pub room : n * 2 ≤ length g.points
  pub grid : Grid g.points
  pub next_room : n ≤ length g.next
  pub of_room : n ≤ length g.of
  pub next : (k : ℕ) → k < n → get_or g.next k 0 < n
  pub kind : (k : ℕ) → k < n → get_or g.of k 0 < length g.kind

-- ranges that follow each other from 0
pub record Ranges (first len : List ℕ) : Type 0 where
  pub same : length len ≡ length first
  pub few : length first ≤ max_links
  pub follow : (c : ℕ) → c < length first → get_or first c 0 ≡ start_in first len c
  pub within : (c : ℕ) → c < length first → get_or first c 0 + get_or len c 0 ≤ max_links

abbrev pub ranges : List ℕ → List ℕ → Table
ranges first len = table [] first len []

-- the points from a position up to another have been made contour c's
pub record ContourListed (c from to : ℕ) (next of next' of' : List ℕ) : Type 0 where
  pub of_below : (k : ℕ) → k < from → get_or of' k 0 ≡ get_or of k 0
  pub of_in : (k : ℕ) → from ≤ k → k < to → get_or of' k 0 ≡ c
  pub of_kept : KeptFrom 0 to of of'
  pub next_below : (k : ℕ) → k < from → get_or next' k 0 ≡ get_or next k 0
  pub next_in_lem : (k : ℕ) → from ≤ k → k < to → get_or next' k 0 ≡ next_in from to k
  pub next_kept : KeptFrom 0 to next next'

-- right for the points of the first n contours
pub record Round (t : Table) (n : ℕ) (next' of : List ℕ) : Type 0 where
  pub of_is : (c k : ℕ) → c < n → first_of t c ≤ k → k < range_end t c → get_or of k 0 ≡ contour_of t k
  pub next_is : (c k : ℕ) → c < n → first_of t c ≤ k → k < range_end t c → get_or next' k 0 ≡ next t (contour_of t k) k

-- right for the points of the first n contours, and past the last of these as they were
pub record RoundInto (first len : List ℕ) (n : ℕ) (next of next' of' : List ℕ) : Type 0 where
  pub round : Round (ranges first len) n next' of'
  pub next_kept : KeptFrom 0 (start_in first len n) next next'
  pub of_kept : KeptFrom 0 (start_in first len n) of of'
