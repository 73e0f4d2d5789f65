-- Points in a list, x and y in turn.
use Rattle.std.specs.Prelude.{ℕ, ◌+◌, ◌*◌, List, set, ℤ}
use Rattle.turn.specs.declared.Point.{Point}

-- point number `at` is p
abbrev pub put : List ℤ → ℕ → Point → List ℤ
put pts at p = set (set pts (at * 2) p.x) (at * 2 + 1) p.y
