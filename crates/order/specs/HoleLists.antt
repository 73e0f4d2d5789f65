-- The holes and their anchors in two lists, as the code gathers them and puts them in order.
use Rattle.std.specs.Prelude.{ℕ, ◌≤◌, ◌<◌, ◌≡◌, Bool, List, length, get_or}
use Rattle.std.proofs.Common.{arith}
use Rattle.table.specs.Table.{Table}
use Rattle.table.specs.Fronts.{KeptFrom}
use Rattle.anchor.specs.Anchor.{anchor_edge}
use Rattle.anchor.specs.declared.Anchor.{Anchor}
use Rattle.anchor.specs.Anchors.{Anchors, listed_anchor, blank, anchors_of, AnchorsOnGrid, fewer_anchors}
use Rattle.precede.specs.Precedence.{goes_before}
use Rattle.order.specs.HoleOrder.{slot, sorted, holes_below}

-- the m holes among the first n contours: hole j is contour `who` j, with anchor j
pub record Gathered (t : Table) (cw : Bool) (n m : ℕ) (who : List ℕ) (h : Anchors) : Type 0 where
  pub all : m ≡ length (holes_below t n)
  pub who_is : (j : ℕ) → j < m → get_or who j 0 ≡ get_or (holes_below t n) j 0
  pub at : (j : ℕ) → j < m → listed_anchor h j ≡ anchor_edge t cw (get_or (holes_below t n) j 0)

-- m holes with anchors within the bounds
pub record Bounded (who : List ℕ) (h : Anchors) (m : ℕ) : Type 0 where
  pub who_room : m ≤ length who
  pub on_grid : AnchorsOnGrid h m

-- which of two holes goes first
abbrev pub by_anchor : Anchors → List ℕ → ℕ → ℕ → Bool
by_anchor h who i j = goes_before (listed_anchor h i) (listed_anchor h j) (get_or who i 0) (get_or who j 0)

abbrev pub slot_of : Anchors → List ℕ → List ℕ → ℕ → ℕ
slot_of h who ord j = slot (λ p. by_anchor h who j (get_or ord p 0)) j

-- m holes in binding's order, by their places among the holes
abbrev pub Ordered : Anchors → List ℕ → ℕ → List ℕ → Type 0
Ordered h who m ord = (i : ℕ) → i < m → get_or ord i 0 ≡ get_or (sorted (by_anchor h who) (λ j. j) m) i 0

-- the same in a longer list, which past them is as it was
pub record OrderedInto (h : Anchors) (who : List ℕ) (m : ℕ) (old new : List ℕ) : Type 0 where
  pub done : Ordered h who m new
  pub kept : KeptFrom 0 m old new

-- the m holes among the first n contours, in longer lists, which past them are as they were
pub record GatheredInto (t : Table) (cw : Bool) (n m : ℕ) (who : List ℕ) (l : List Anchor) (who' : List ℕ) (l' : List Anchor) : Type 0 where
  pub found : Gathered t cw n m who' (anchors_of l')
  pub who_kept : KeptFrom 0 m who who'
  pub anchors_kept : KeptFrom blank m l l'

-- ---- fewer holes
pub bounded_to : (who : List ℕ) (h : Anchors) (n m : ℕ) → Bounded who h m → n ≤ m → Bounded who h n
bounded_to who h n m b l = record { who_room = omega (arith, b.who_room); on_grid = fewer_anchors h n b.on_grid l }
