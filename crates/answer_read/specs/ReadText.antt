-- The bytes that the program prints for what reading gave: its refusal, or the answer to the graph at the fronts of the lent lists; and the states
-- that are then left.
use Rattle.std.specs.Prelude.{ℕ, ◌+◌, List, ◌++◌, take, drop, Result, Ok, Err}
use Rattle.graph.specs.Graph.{Lent, lent}
use Rattle.format.specs.declared.FileCounts.{FileCounts}
use Rattle.format.specs.File.{FileLists}
use Rattle.print.specs.Answer.{printed_refusal}
use Rattle.writing.specs.Cuts.{Cut}
use Rattle.answer_graph.specs.GraphText.{graph_text, graph_states}
use Rattle.turn.specs.declared.NumberedRefusal.{NumberedRefusal}

-- the lists are long enough to be cut so
pub record FrontsFit (c : FileCounts) (b : FileLists) : Type 0 where
  pub ax : Cut c.links b.ax
  pub ay : Cut c.links b.ay
  pub bx : Cut c.links b.bx
  pub by : Cut c.links b.by
  pub a_id : Cut c.links b.a_id
  pub b_id : Cut c.links b.b_id
  pub top : Cut c.links b.top
  pub state : Cut c.links b.state
  pub start : Cut (c.nodes + 1) b.start
  pub list : Cut c.entries b.list

-- the graph in front
abbrev pub front_lent : FileCounts → FileLists → Lent
front_lent c b =
    let n = c.links in
    lent (take n b.ax) (take n b.ay) (take n b.bx) (take n b.by) (take n b.a_id) (take n b.b_id)
    (take (c.nodes + 1) b.start) (take c.entries b.list)

-- the answer to what stands in front
abbrev pub front_text : FileCounts → FileLists → List ℕ
front_text c b = graph_text (front_lent c b) (take c.links b.top) c.clockwise c.minimum (take c.links b.state)

-- the states of its links as extraction leaves them, and the others as they were
abbrev pub front_states : FileCounts → FileLists → List ℕ
front_states c b =
    graph_states (front_lent c b) (take c.links b.top) c.clockwise c.minimum (take c.links b.state) ++ drop c.links b.state

abbrev pub ReadFits : Result FileCounts NumberedRefusal → FileLists → Type 0
ReadFits (Ok c) b = FrontsFit c b
ReadFits (Err why) b = Unit

abbrev pub read_text : Result FileCounts NumberedRefusal → FileLists → List ℕ
read_text (Ok c) b = front_text c b
read_text (Err why) b = printed_refusal why.number why.place

abbrev pub read_states : Result FileCounts NumberedRefusal → FileLists → List ℕ
read_states (Ok c) b = front_states c b
read_states (Err why) b = b.state
