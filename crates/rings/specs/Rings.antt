-- The ring of a node: its unskipped entries in ring order. There is one
-- alone; read round from a link it is what turning from there meets.
use Rattle.std.specs.Prelude.{ℕ, ◌≡◌, true, List}
use Rattle.graph.specs.Graph.{Graph}
use Rattle.next.specs.Choice.{Mem}
use Rattle.rings.specs.RingOrder.{ring_before, Spoke}
use Rattle.rings.specs.Sorted.{Sorted}

-- link e stands before link f at node v, as a fact
abbrev pub InOrder : Graph → ℕ → ℕ → ℕ → Type 0
InOrder g v e f = ring_before g v e f ≡ true

-- l is the ring of node v: in ring order (so no link stands in it twice), unskipped entries alone, and all of them
pub record Ring (g : Graph) (state : List ℕ) (v : ℕ) (l : List ℕ) : Type 0 where
  pub sorted : Sorted (InOrder g v) l
  pub only : (k : ℕ) → Mem k l → Spoke g state v k
  pub every : (k : ℕ) → Spoke g state v k → Mem k l
