-- The links alone, without their other nodes, their tops and the nodes' lists: all that directions are read from.
use Rattle.std.specs.Prelude.{List, [], ℕ, ℤ}
use Rattle.graph.specs.Graph.{Graph, graph_of, lent}

abbrev pub links_of : List ℤ → List ℤ → List ℤ → List ℤ → List ℕ → Graph
links_of ax ay bx by a_id = graph_of (lent ax ay bx by a_id [] [] []) []
