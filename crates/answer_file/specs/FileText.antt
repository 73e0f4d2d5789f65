-- The bytes that the program prints for what a file says: the answer to its graph, or its refusal; and what the lists that it is read into hold then.
use Rattle.std.specs.Prelude.{List, ◌++◌, ℕ, length, drop}
use Rattle.graph.specs.Graph.{Lent, lent}
use Rattle.format.specs.File.{Contents, File, holding, refused_file, FileLists, file_lists, contents_into}
use Rattle.print.specs.Answer.{printed_refusal}
use Rattle.turn.specs.Reasons.{number_of}
use Rattle.answer_graph.specs.GraphText.{graph_text, graph_states}

abbrev pub contents_lent : Contents → Lent
contents_lent g = lent g.ax g.ay g.bx g.by g.a_id g.b_id g.start g.list

unfoldable pub file_text : File → List ℕ
file_text (holding g) = graph_text (contents_lent g) g.top g.clockwise g.minimum g.state
file_text (refused_file e) = printed_refusal (number_of e.reason) e.place

-- the states of the file's links as extraction leaves them, the others as they were
abbrev pub states_left : Contents → List ℕ → List ℕ
states_left g old = graph_states (contents_lent g) g.top g.clockwise g.minimum g.state ++ drop (length g.a_id) old

-- lists with other states
abbrev pub with_states : List ℕ → FileLists → FileLists
with_states state b = file_lists b.ax b.ay b.bx b.by b.a_id b.b_id b.top state b.start b.list

-- a refusal leaves the lists alone
unfoldable pub file_left : File → FileLists → FileLists
file_left (holding g) b = with_states (states_left g b.state) (contents_into g b)
file_left (refused_file e) b = b
