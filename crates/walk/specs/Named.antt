-- Of any graph: what rule 1 names is unvisited.
use Rattle.std.specs.Prelude.{ℕ, List, Option, Some, None}
use Rattle.graph.specs.Graph.{Graph}
use Rattle.next.specs.Next.{first_link}
use Rattle.next.specs.Known.{NamesUnvisited}
use Rattle.next.specs.States.{is_unvisited_lem}
use Rattle.next.specs.Topmost.{first_unvisited_lem}
use Rattle.walk.specs.States.{Unvisited}

abbrev pub LinkUnvisited : List ℕ → Option ℕ → Type 0
LinkUnvisited st None = Unit {0}
LinkUnvisited st (Some k) = Unvisited st k

pub first_is_unvisited : (g : Graph) (st : List ℕ) (k : ℕ) → Unvisited st k → LinkUnvisited st (first_link g st k)
first_is_unvisited g st k o = go (first_link g st k) (first_unvisited_lem g st k o)
  where
    go : (n : Option ℕ) → NamesUnvisited st n → LinkUnvisited st n
    go None h = tt
    go (Some s) h = is_unvisited_lem st s h
