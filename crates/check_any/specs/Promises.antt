-- What each public function promises, written once: its contract names it, and any two outcomes that it allows are equal.
use Rattle.std.specs.Prelude.{List, ℕ}
use Rattle.laws.specs.Unique.{Determines}
use Rattle.turn.specs.Refusals.{Tells, tells_once, Checked}
use Rattle.graph.specs.Graph.{Lent}
use Rattle.graph.specs.Checks.{checked}
use Rattle.check_graph.specs.declared.Room.{Room}
use Rattle.check_graph.specs.Rooms.{room_of}

-- the answer; of the field of ends see `AllLaid`
abbrev pub Checks : Lent → List ℕ → List ℕ → Room → Checked → Type 0
Checks g top state room r = Tells r (checked g top state (room_of room))

checks_once : (g : Lent) (top state : List ℕ) (room : Room) → Determines (Checks g top state room)
checks_once g top state room = tells_once (checked g top state (room_of room))

abbrev pub CheckAnySays : Lent → List ℕ → List ℕ → Room → Checked → Type 0
CheckAnySays = Checks

pub check_any_once : (g : Lent) (top state : List ℕ) (room : Room) → Determines (CheckAnySays g top state room)
check_any_once = checks_once
