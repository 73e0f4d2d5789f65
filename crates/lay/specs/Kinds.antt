-- The nodes by their kind, and what the pass over those of one kind leaves.
use Rattle.std.specs.Prelude.{ℕ, ◌<◌, ◌≡◌, Bool, true, false, List, length, get_or}
use Rattle.laws.specs.Lowest.{some}
use Rattle.graph.specs.Graph.{Lent, graph_of}
use Rattle.graph.specs.Checks.{a_of, b_of, node_at, entries_of}
use Rattle.graph.specs.Quick.{node_wrong}
use Rattle.rings.specs.Field.{Laid, end_node}
use Rattle.lay.specs.declared.Found.{Found}
use Rattle.lay.specs.declared.Found.TheVariants.{Fault, Nothing, Wide}
use Rattle.lay.specs.declared.Passed.{Passed}
use Rattle.lay.specs.declared.Passed.TheVariants.{Wrong, Bridges, Crosses}

abbrev pub Bridge : Lent → ℕ → Type 0
Bridge g v = length (entries_of g v) ≡ 2

abbrev pub Cross : Lent → ℕ → Type 0
Cross g v = length (entries_of g v) ≡ 2 → ⊥

-- checks 5 to 7 find something wrong with node v
abbrev pub wrong_at : Lent → List ℕ → ℕ → Bool
wrong_at g state v = node_wrong g.a_id g.b_id (a_of g) (b_of g) (node_at g.a_id) state (entries_of g v) v

-- nothing is wrong with the nodes of a kind below m, and they are laid
pub record KindLaid (g : Lent) (state : List ℕ) (Kind : ℕ → Type 0) (m : ℕ) (nxt prv lead : List ℕ) : Type 0 where
  pub fine : (v : ℕ) → v < m → Kind v → wrong_at g state v ≡ false
  pub laid : (top : List ℕ) (v : ℕ) → v < m → Kind v → Laid (graph_of g top) state v nxt prv lead

-- by what the pass over the `Bridge`s below m finds
abbrev pub BridgesLaid : Lent → List ℕ → ℕ → List ℕ → List ℕ → Passed → Type 0
BridgesLaid g state m nxt lead Wrong = some (wrong_at g state) m ≡ true
BridgesLaid g state m nxt lead Bridges = ((v : ℕ) → v < m → Bridge g v) × ((prv : List ℕ) → KindLaid g state (Bridge g) m nxt prv lead)
BridgesLaid g state m nxt lead Crosses = (prv : List ℕ) → KindLaid g state (Bridge g) m nxt prv lead

-- by what the pass over the `Cross`es below m finds; it stops at one of more than `most` entries
abbrev pub CrossesLaid : Lent → List ℕ → ℕ → ℕ → List ℕ → List ℕ → Found → Type 0
CrossesLaid g state m most nxt prv Fault = some (wrong_at g state) m ≡ true
CrossesLaid g state m most nxt prv Nothing = (lead : List ℕ) → KindLaid g state (Cross g) m nxt prv lead
CrossesLaid g state m most nxt prv Wide = most < length g.list

-- a list by ends is as it was at the ends at `Bridge`s
abbrev pub BridgesKept : Lent → List ℕ → List ℕ → Type 0
BridgesKept g old new = (h : ℕ) → Bridge g (end_node g.a_id g.b_id h) → get_or new h 0 ≡ get_or old h 0
