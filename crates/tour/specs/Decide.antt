-- The condition as a test that computes.
use Rattle.std.specs.Prelude.{ℕ, Bool, true, false, not, ◌&&◌, List, [], ◌∷◌, Option, Some, None}
use Rattle.std.specs.Bool.{beq}
use Rattle.laws.specs.Lowest.{some}
use Rattle.graph.specs.Graph.{Graph}
use Rattle.next.specs.Next.{unvisited_in, met_first, first_met}
use Rattle.tour.specs.Statement.{leaves}

abbrev pub all_of : (ℕ → Bool) → List ℕ → Bool
all_of test [] = true
all_of test (x ∷ l) = test x && all_of test l

-- what is named is of the other sort than x
abbrev pub other_sort : Graph → ℕ → ℕ → Option ℕ → Bool
other_sort g v x None = false
other_sort g v x (Some z) = beq (leaves g v z) (not (leaves g v x))

-- at node v each unskipped link's next clockwise is of the other sort
abbrev pub turns_at : Graph → List ℕ → ℕ → Bool
turns_at g st v = all_of (λ x. other_sort g v x (first_met (met_first g true v x) (unvisited_in st (g.entries v)))) (unvisited_in st (g.entries v))

-- at none of m nodes it is otherwise
abbrev pub comes_by_turns : Graph → List ℕ → ℕ → Bool
comes_by_turns g st m = not (some (λ v. not (turns_at g st v)) m)
