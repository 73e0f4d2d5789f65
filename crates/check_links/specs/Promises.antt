-- What each public function promises, written once: its contract names it, and any two outcomes that it allows are equal.
use Rattle.std.specs.Prelude.{List, ℕ}
use Rattle.laws.specs.Unique.{Determines}
use Rattle.turn.specs.Refusals.{Tells, tells_once, Checked}
use Rattle.graph.specs.Graph.{Lent}
use Rattle.graph.specs.Checks.{Room, links_checked}

abbrev pub CheckLinksSays : Lent → List ℕ → List ℕ → Room → Checked → Type 0
CheckLinksSays g top state rm r = Tells r (links_checked g top state rm)

pub check_links_once : (g : Lent) (top state : List ℕ) (rm : Room) → Determines (CheckLinksSays g top state rm)
check_links_once g top state rm = tells_once (links_checked g top state rm)
