-- Candidate edges: which way they are walked, and the edges of a table with their ends accordingly.
use Rattle.std.specs.Prelude.{ℕ, Bool, not, ◌&&◌, ◌||◌}
use Rattle.laws.specs.Test.{pick}
use Rattle.turn.specs.declared.Point.{Point}
use Rattle.table.specs.Table.{Table, point, kind_of, contour_of, next}
use Rattle.edges.specs.declared.Edge.{Edge}

-- "Candidate edges are those with fill above: walked rightward for counterclockwise output, leftward for clockwise."
-- With fill below it is the other way round.
abbrev pub rightward : Bool → Bool → Bool
rightward above clockwise = (above && not clockwise) || (not above && clockwise)

-- An edge walked from p to q, with its contour's kind and number. Its ends stand the way round that makes a candidate run
-- from left to right: an edge walked the other way has its right end left of its left end, or upright over it, and spans nothing.
abbrev pub edge_of : Bool → Point → Point → ℕ → ℕ → Edge
edge_of right p q k c = record { left = pick right p q; right = pick right q p; kind = k; contour = c }

-- edge k of a table: from point k to the next one round its contour
unfoldable pub edge : Table → Bool → ℕ → Edge
edge t right k = let c = contour_of t k in edge_of right (point t k) (point t (next t c k)) (kind_of t c) c
