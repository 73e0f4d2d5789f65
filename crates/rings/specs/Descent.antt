-- Rule 1 asked again, as the code reads it off the lists: down the ring from the link that it named before.
use Rattle.std.specs.Prelude.{ℕ, ◌≡◌, false, List}
use Rattle.graph.specs.Graph.{Graph}
use Rattle.next.specs.Next.{is_unvisited, first_link}
use Rattle.rings.specs.Ends.{a_end}
use Rattle.rings.specs.Follow.{Left}
use Rattle.rings.specs.Field.{prev_of}

-- link f is visited, and from its a by `prv` the first unvisited link met is the one that rule 1 names at link k
pub record Descends (g : Graph) (prv t : List ℕ) (k f : ℕ) : Type 0 where
  pub visited : is_unvisited t f ≡ false
  pub left : Left g (g.a_node k) (a_end f) (prev_of prv) g.n t (first_link g t k) (a_end f)
