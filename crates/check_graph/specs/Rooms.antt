-- The room that is lent for the answer: the code's struct as the checks' record.
use Rattle.graph.specs.Checks as graph
use Rattle.check_graph.specs.declared.Room.{Room}

abbrev pub room_of : Room → graph.Room
room_of r = graph.room r.points r.firsts r.lens r.kinds
