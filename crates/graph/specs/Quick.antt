-- What the one pass over the nodes asks of each: what checks 5 to 7 ask of it, at once. `Sound` has what follows where nothing is wrong.
use Rattle.std.specs.Prelude.{ℕ, Bool, true, false, not, ◌||◌, ◌&&◌, List, eqb, length, get_or}
use Rattle.laws.specs.Test.{pick}
use Rattle.laws.specs.Lowest.{some}
use Rattle.laws.specs.Sign.{zer, sgn, eq_s}
use Rattle.turn.specs.declared.Point.{Point}
use Rattle.turn.specs.Points.{differ, from_to, cross}
use Rattle.graph.specs.Checks.{stray, stray_in, apart, skipped, alike}

-- x stands among the first j entries
abbrev pub stands_before : List ℕ → ℕ → ℕ → Bool
stands_before entries j x = some (λ i. eqb (get_or entries i 0) x) j

-- one of the first j entries of node v is alike link f
abbrev pub alike_before : (ℕ → Point) → (ℕ → Point) → (ℕ → ℕ) → List ℕ → List ℕ → ℕ → ℕ → ℕ → Bool
alike_before a b a_node state entries v j f = some (λ i. alike a b a_node state v (get_or entries i 0) f) j

-- entry j of node v is an earlier one again, has another point than the first, or is alike an earlier one
abbrev pub clash_at : (ℕ → Point) → (ℕ → Point) → (ℕ → ℕ) → List ℕ → List ℕ → ℕ → ℕ → Bool
clash_at a b a_node state entries v j =
    stands_before entries j (get_or entries j 0) ||
    apart a b a_node v (get_or entries 0 0) (get_or entries j 0) ||
    alike_before a b a_node state entries v j (get_or entries j 0)

-- something is wrong with node v, a `Bridge` with entries e and f
abbrev pub bridge_wrong : List ℕ → List ℕ → (ℕ → Point) → (ℕ → Point) → (ℕ → ℕ) → List ℕ → ℕ → ℕ → ℕ → Bool
bridge_wrong a_id b_id a b a_node state v e f =
    pick (stray a_id b_id v e || stray a_id b_id v f || eqb e f) true (apart a b a_node v e f || alike a b a_node state v e f)

-- something is wrong with node v, a `Bridge` with entries e and f, of which f has the end p there, by the ids of these ends, and q is the
-- other end: e's p is not there, e is f, the points differ, or e and f are parallel and both unskipped
abbrev pub like_wrong : List ℕ → (ℕ → Point) → (ℕ → Point) → List ℕ → ℕ → ℕ → ℕ → Bool
like_wrong pId p q state v e f =
    pick (not (eqb (get_or pId e 0) v) || eqb e f || differ (p e) (p f)) true
    (pick (eq_s (sgn (cross (from_to (p e) (q e)) (from_to (p f) (q f)))) zer) (not (skipped state e) && not (skipped state f)) false)

-- something is wrong with node v, of any number of entries
abbrev pub node_wrong : List ℕ → List ℕ → (ℕ → Point) → (ℕ → Point) → (ℕ → ℕ) → List ℕ → List ℕ → ℕ → Bool
node_wrong a_id b_id a b a_node state entries v =
    pick (eqb (length entries) 2) (bridge_wrong a_id b_id a b a_node state v (get_or entries 0 0) (get_or entries 1 0))
    (pick (stray_in a_id b_id entries v) true (some (clash_at a b a_node state entries v) (length entries)))
