-- What each public function promises, written once: its contract names it, and any two outcomes that it allows are equal.
use Rattle.std.specs.Prelude.{ℕ, ◌≡◌, List, ℤ}
use Rattle.laws.specs.Unique.{Determines, by_equation, by_equation_with}
use Rattle.turn.specs.declared.Point.{Point}
use Rattle.turn.specs.declared.Vector.{Vector}
use Rattle.turn.specs.Points.{Short}
use Rattle.graph.specs.Graph.{point_at, part}
use Rattle.graph.specs.Checks.{node_at, end_at, away}

abbrev pub PointAtSays : List ℤ → List ℤ → ℕ → Point → Type 0
PointAtSays xs ys k r = r ≡ point_at xs ys k

pub point_at_once : (xs ys : List ℤ) (k : ℕ) → Determines (PointAtSays xs ys k)
point_at_once xs ys k = by_equation (point_at xs ys k)

-- of the part that is handed back, what it holds
abbrev pub EntriesSays : List ℕ → List ℕ → ℕ → List ℕ → Type 0
EntriesSays start list v r = r ≡ part start list v

pub entries_once : (start list : List ℕ) (v : ℕ) → Determines (EntriesSays start list v)
entries_once start list v = by_equation (part start list v)

abbrev pub EndAtSays : (a b : ℕ → Point) → List ℕ → ℕ → ℕ → Point → Type 0
EndAtSays a b a_id v k r = r ≡ end_at a b (node_at a_id) v k

pub end_at_once : (a b : ℕ → Point) (a_id : List ℕ) (v k : ℕ) → Determines (EndAtSays a b a_id v k)
end_at_once a b a_id v k = by_equation (end_at a b (node_at a_id) v k)

abbrev pub AwaySays : (a b : ℕ → Point) → List ℕ → ℕ → ℕ → Vector → Type 0
AwaySays a b a_id v k r = (r ≡ away a b (node_at a_id) v k) × (Short r)

pub away_once : (a b : ℕ → Point) (a_id : List ℕ) (v k : ℕ) → Determines (AwaySays a b a_id v k)
away_once a b a_id v k = by_equation_with (away a b (node_at a_id) v k) Short
