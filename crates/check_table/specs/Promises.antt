-- What the public function promises, written once: its contract names it, and any two outcomes that it allows are equal.
use Rattle.std.specs.Prelude.{ℕ}
use Rattle.laws.specs.Unique.{Determines}
use Rattle.turn.specs.Refusals.{Tells, tells_once, Checked}
use Rattle.table.specs.Table.{Table}
use Rattle.table.specs.TableChecks.{table_checked}

abbrev pub CheckTableSays : Table → ℕ → Checked → Type 0
CheckTableSays t owners r = Tells r (table_checked t owners)

pub check_table_once : (t : Table) (owners : ℕ) → Determines (CheckTableSays t owners)
check_table_once t owners = tells_once (table_checked t owners)
