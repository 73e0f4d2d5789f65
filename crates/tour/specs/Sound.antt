-- What the third demand uses of checks 1 to 7, and the second form of its condition: clockwise, the next link is of the other sort.
use Rattle.std.specs.Prelude.{ℕ, ◌<◌, ◌≡◌, true, not, List, length}
use Rattle.std.proofs.Common.{subst}
use Rattle.graph.specs.Graph.{Graph}
use Rattle.laws.specs.Count.{count}
use Rattle.graph.specs.Fine.{OnePoint}
use Rattle.next.specs.Next.{met_first}
use Rattle.next.specs.Choice.{Mem}
use Rattle.next.specs.States.{unvisited_below}
use Rattle.walk.specs.States.{Unvisited}
use Rattle.tour.specs.Statement.{leaves}
use Rattle.tour.specs.Ends.{Listed}
use Rattle.tour.specs.Around.{Spread}

pub record Sound (g : Graph) (st : List ℕ) : Type 0 where
  pub states : length st ≡ g.n
  pub lists : Listed g
  pub single : (v k : ℕ) → Mem k (g.entries v) → count k (g.entries v) ≡ 1
  pub points : OnePoint g
  pub spread : Spread g st

pub below : (g : Graph) (st : List ℕ) → Sound g st → (k : ℕ) → Unvisited st k → k < g.n
below g st ok k o = subst (λ x. k < x) ok.states (unvisited_below st k o)

-- an unskipped link at node v
abbrev pub At : Graph → List ℕ → ℕ → ℕ → Type 0
At g st v k = Mem k (g.entries v) × Unvisited st k

-- none of the unskipped links at node v is met between x and z, turning clockwise
abbrev pub NoneBetween : Graph → List ℕ → ℕ → ℕ → ℕ → Type 0
NoneBetween g st v x z = (y : ℕ) → At g st v y → met_first g true v x y z ≡ true → ⊥

-- the next of the unskipped links at node v, clockwise from x (x itself after a full turn), is of the other sort
abbrev pub NextTurns : Graph → List ℕ → Type 0
NextTurns g st = (v x : ℕ) → At g st v x → (z : ℕ) × (At g st v z × NoneBetween g st v x z) × (leaves g v z ≡ not (leaves g v x))
