-- What the public function promises, written once: its contract names it. Of a copy in which the entries of a node of many may be in any
-- order, any two that it allows are copies of each other.
use Rattle.std.specs.Prelude.{List, ℕ}
use Rattle.fan.specs.Arranged.{Arranged, arranged_alike}

-- the copy; in what order the entries of a node of many stand in it decides time alone
abbrev pub ArrangeSays : (start list : List ℕ) → List ℕ → Type 0
ArrangeSays start list r = Arranged start list r

pub arrange_once : (start list r s : List ℕ) → ArrangeSays start list r → ArrangeSays start list s → Arranged start r s
arrange_once start list r s p q = arranged_alike p q
