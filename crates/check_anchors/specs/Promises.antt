-- What the public function promises, written once: its contract names it, and any two outcomes that it allows are equal.
use Rattle.std.specs.Prelude.{Bool}
use Rattle.laws.specs.Unique.{Determines}
use Rattle.turn.specs.Refusals.{Tells, tells_once, Checked}
use Rattle.table.specs.Table.{Table}
use Rattle.anchor.specs.AnchorChecks.{anchors_checked}

abbrev pub CheckAnchorsSays : Table → Bool → Checked → Type 0
CheckAnchorsSays t clockwise r = Tells r (anchors_checked t clockwise)

pub check_anchors_once : (t : Table) (clockwise : Bool) → Determines (CheckAnchorsSays t clockwise)
check_anchors_once t clockwise = tells_once (anchors_checked t clockwise)
