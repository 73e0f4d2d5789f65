-- The search under an anchor: the nearest of the candidate edges that span it and lie under it.
use Rattle.std.specs.Prelude.{ℕ, zero, suc, ◌+◌, ◌-◌, Bool, ◌&&◌, ◌||◌, eqb}
use Rattle.laws.specs.Test.{pick}
use Rattle.table.specs.Table.{Table, point_count}
use Rattle.anchor.specs.declared.Anchor.{Anchor}
use Rattle.edges.specs.declared.Edge.{Edge}
use Rattle.edges.specs.Edges.{spans, lies_under, nearer}
use Rattle.candidates.specs.Candidates.{rightward, edge}

-- ---- what one edge does to the best so far, b: an edge's number and 1, or 0 where there is none
module _ (edge : ℕ → Edge) (a : Anchor) where
  -- edge k takes its place where it lies under, and is the first to do so or nearer
  unfoldable pub kept : ℕ → ℕ → ℕ
  kept k b = pick (lies_under a (edge k) && (eqb b 0 || nearer a (edge k) (edge (b - 1)))) (k + 1) b

  -- an edge that does not span the anchor leaves things as they are
  unfoldable pub offered : ℕ → ℕ → ℕ
  offered k b = pick (spans a.at.x (edge k)) (kept k b) b

-- ---- the search, among n edges, of which those of some contours count
module _ (edge : ℕ → Edge) (gives : ℕ → Bool) (a : Anchor) where
  unfoldable pub keep : ℕ → ℕ → ℕ
  keep k b = pick (gives (edge k).contour) (offered edge a k b) b

  -- the nearest of the first n edges: its number and 1, or 0 where there is none
  unfoldable pub nearest : ℕ → ℕ
  nearest zero = 0
  nearest (suc n) = keep n (nearest n)

  -- what the search answers: the nearest edge's contour and 1, or 0 where there is none
  unfoldable pub contour_under : ℕ → ℕ
  contour_under n = let b = nearest n in pick (eqb b 0) 0 ((edge (b - 1)).contour + 1)

-- The search under an anchor in a table: the contour, and 1, of the nearest candidate edge; 0 where there is none.
-- Candidates have their fill on the side that is asked for, and come from the contours that give edges.
abbrev pub search_under : Table → (above clockwise : Bool) → (ℕ → Bool) → Anchor → ℕ
search_under t above clockwise gives a = contour_under (edge t (rightward above clockwise)) gives a (point_count t)
