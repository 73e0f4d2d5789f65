-- What the search is told of its anchors and of the contours that give edges, and what it finds, in lists.
use Rattle.std.specs.Prelude.{ℕ, ◌+◌, ◌-◌, ◌≤◌, ◌<◌, ◌≡◌, Bool, List, length, get_or, eqb, ℤ, pos, ◌≤ℤ◌, ◌<ℤ◌}
use Rattle.laws.specs.Test.{pick}
use Rattle.table.specs.Fronts.{KeptFrom}
use Rattle.anchor.specs.Anchors.{Anchors, listed_anchor, AnchorsOnGrid}
use Rattle.candidates.specs.EdgeLists.{EdgeLists, listed_edge}
use Rattle.nearest.specs.Search.{offered, nearest}

-- the contours that give edges: those that a list of flags does not mute
abbrev pub giving : List ℕ → ℕ → Bool
giving mute c = eqb (get_or mute c 0) 0

-- the contour of an edge, and 1, by the edge's number and 1; 0 where there is none
abbrev pub named : List ℕ → ℕ → ℕ
named of b = pick (eqb b 0) 0 (get_or of (b - 1) 0 + 1)

-- the contours of n edges have a flag
abbrev pub Flags : List ℕ → List ℕ → ℕ → Type 0
Flags of mute n = (k : ℕ) → k < n → get_or of k 0 < length mute

-- m numbers in order
abbrev pub Sorted : List ℤ → ℕ → Type 0
Sorted l m = (p q : ℕ) → p ≤ q → q < m → get_or l p (pos 0) ≤ℤ get_or l q (pos 0)

-- m anchors within the bounds, in order by x
pub record SortedAnchors (h : Anchors) (m : ℕ) : Type 0 where
  pub on_grid : AnchorsOnGrid h m
  pub sorted : Sorted h.x m

-- ---- what the code finds
-- the first r of m numbers are below x, the others are not
pub record Parted (l : List ℤ) (m : ℕ) (x : ℤ) (r : ℕ) : Type 0 where
  pub within : r ≤ m
  pub below : (k : ℕ) → k < r → get_or l k (pos 0) <ℤ x
  pub above : (k : ℕ) → r ≤ k → k < m → x ≤ℤ get_or l k (pos 0)

-- edge numbers and 1, or 0
abbrev pub Numbers : List ℕ → ℕ → ℕ → Type 0
Numbers l m n = (j : ℕ) → j < m → get_or l j 0 ≤ n

-- edge k has been offered to m anchors
abbrev pub Offered : EdgeLists → Anchors → ℕ → ℕ → List ℕ → List ℕ → Type 0
Offered g h m k old new = (j : ℕ) → j < m → get_or new j 0 ≡ offered (listed_edge g) (listed_anchor h j) k (get_or old j 0)

-- the nearest of n edges under each of m anchors
abbrev pub Nearests : EdgeLists → List ℕ → ℕ → Anchors → ℕ → List ℕ → Type 0
Nearests g mute n h m best = (j : ℕ) → j < m → get_or best j 0 ≡ nearest (listed_edge g) (giving mute) (listed_anchor h j) n

-- the contours of m edges have been written, and past them all is as it was
pub record NamedInto (of best : List ℕ) (m : ℕ) (old new : List ℕ) : Type 0 where
  pub names : (j : ℕ) → j < m → get_or new j 0 ≡ named of (get_or best j 0)
  pub kept : KeptFrom 0 m old new
