-- The third demand for extraction itself: what the answer to a graph that passes the checks and comes by turns is.
use Rattle.std.specs.Prelude.{ℕ, ◌≡◌, Bool, List, length, ◌+ℤ◌, Ok}
use Rattle.graph.specs.Graph.{Lent, graph_of}
use Rattle.graph.specs.Checks.{Room, room}
use Rattle.next.specs.Next.{unvisited}
use Rattle.keep.specs.declared.Counts.{Counts}
use Rattle.extraction.specs.Extract.{extracted}
use Rattle.finish.specs.Finish.{Buffers}
use Rattle.tour.specs.Statement.{link_total}

-- the room that is lent with the buffers
abbrev pub room_in : Buffers → Room
room_in b = room (length b.points) (length b.first) (length b.len) (length b.kind)

pub record Answered (g : Lent) (top : List ℕ) (cw : Bool) (minimum : ℕ) (b : Buffers) : Type 0 where
  pub counts : Counts
  pub done : (extracted g top cw minimum b).answer ≡ Ok counts
  pub total : counts.kept_area +ℤ counts.rejected_area ≡ link_total (graph_of g top) cw b.state
  pub walked : counts.walked ≡ unvisited b.state
