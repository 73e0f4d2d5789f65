-- What each public function promises, written once: its contract names it, and any two outcomes that it allows are equal.
use Rattle.std.specs.Prelude.{ℕ, ◌≡◌, Bool}
use Rattle.laws.specs.Unique.{Determines, by_equation}
use Rattle.table.specs.Table.{Table}
use Rattle.anchor.specs.AnchorChecks.{both_checked}
use Rattle.turn.specs.Refusals.{Checked}

abbrev pub CheckSays : Table → ℕ → Bool → Checked → Type 0
CheckSays t owners clockwise r = r ≡ both_checked t owners clockwise

pub check_once : (t : Table) (owners : ℕ) (clockwise : Bool) → Determines (CheckSays t owners clockwise)
check_once t owners clockwise = by_equation (both_checked t owners clockwise)
