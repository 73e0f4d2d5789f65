-- Points on a straight line are dropped: the rule over any list of points (document 02, a)).
use Rattle.std.specs.Prelude.{ℕ, zero, suc, Bool, List, [], ◌∷◌, length, ltb}
use Rattle.laws.specs.Test.{pick}
use Rattle.laws.specs.Sign.{zer, sgn, eq_s}
use Rattle.turn.specs.declared.Point.{Point}
use Rattle.turn.specs.Points.{turn}

-- "a point .. and its two neighbours .. lie on one line": their cross product is 0
abbrev pub on_line : Point → Point → Point → Bool
on_line a b c = eq_s (sgn (turn a b c)) zer

-- the first of some points, or the one that comes after them where there is none
abbrev pub head_or : Point → List Point → Point
head_or home [] = home
head_or home (p ∷ l) = p

-- the last of some points, or the one that comes before them
abbrev pub last_or : Point → List Point → Point
last_or prev [] = prev
last_or prev (p ∷ l) = last_or p l

-- some points between `prev` and `home` without the first of them that lies on one line with its two neighbours
abbrev pub without : Point → Point → List Point → List Point
without prev home [] = []
without prev home (p ∷ l) = pick (on_line prev p (head_or home l)) l (p ∷ without p home l)

-- "Remove the lowest position first": neighbours are taken "round the contour", so the last point stands before the first
abbrev pub remove_lowest : List Point → List Point
remove_lowest [] = []
remove_lowest (p ∷ l) = without (last_or p l) p (p ∷ l)

-- ".. until .. fewer than 3 points remain"
abbrev pub removal : List Point → List Point
removal l = pick (ltb (length l) 3) l (remove_lowest l)

-- "and repeat": so many times
abbrev pub removals : ℕ → List Point → List Point
removals zero l = l
removals (suc n) l = removals n (removal l)

-- ".. until none is left": then a removal changes nothing, and as many as there are points are enough (`Corners.enough`)
unfoldable pub drop_straight : List Point → List Point
drop_straight l = removals (length l) l
