-- What is read off the walks: areas, kept or not, states, the contour table and the counts (rule 6).
use Rattle.std.specs.Prelude.{ℕ, ◌+◌, Bool, List, [], ◌∷◌, ◌++◌, map, length, ℤ, pos, ◌+ℤ◌}
use Rattle.laws.specs.Test.{pick}
use Rattle.turn.specs.declared.Point.{Point}
use Rattle.turn.specs.Area.{area}
use Rattle.turn.specs.Size.{is_kept}
use Rattle.graph.specs.Graph.{Graph}
use Rattle.keep.specs.declared.Counts.{Counts}
use Rattle.walk.specs.Walk.{Walk, points, marked, mark_of}

abbrev pub area_of : Graph → Walk → ℤ
area_of g w = area (points g w)

-- rule 6
abbrev pub keeps : Graph → ℕ → Walk → Bool
keeps g minimum w = is_kept (length w.steps) (area_of g w) minimum

abbrev pub kept : Graph → ℕ → List Walk → List Walk
kept g minimum [] = []
kept g minimum (w ∷ ws) = pick (keeps g minimum w) (w ∷ kept g minimum ws) (kept g minimum ws)

abbrev pub rejected : Graph → ℕ → List Walk → List Walk
rejected g minimum [] = []
rejected g minimum (w ∷ ws) = pick (keeps g minimum w) (rejected g minimum ws) (w ∷ rejected g minimum ws)

-- ---- the visit states after the walks: 2 for the links of a hole, 3 for those of a hull
abbrev pub states_after : List Walk → List ℕ → List ℕ
states_after [] st = st
states_after (w ∷ ws) st = states_after ws (marked (mark_of w.hole) w.steps st)

-- ---- the contour table of the kept walks: first point's position, number of points, kind (0 hull, 1 hole); and their points, x and y in turn
abbrev pub lens : List Walk → List ℕ
lens = map (λ w. length w.steps)

abbrev pub firsts : ℕ → List ℕ → List ℕ
firsts at [] = []
firsts at (n ∷ ns) = at ∷ firsts (at + n) ns

abbrev pub kinds : List Walk → List ℕ
kinds = map (λ w. pick w.hole 1 0)

abbrev pub all_points : Graph → List Walk → List Point
all_points g [] = []
all_points g (w ∷ ws) = points g w ++ all_points g ws

abbrev pub coordinates : List Point → List ℤ
coordinates [] = []
coordinates (p ∷ l) = p.x ∷ (p.y ∷ coordinates l)

-- ---- the counts and the signed doubled totals
abbrev pub sum : List ℕ → ℕ
sum [] = 0
sum (n ∷ ns) = n + sum ns

abbrev pub total : List ℤ → ℤ
total [] = pos 0
total (z ∷ zs) = z +ℤ total zs

abbrev pub areas : Graph → List Walk → List ℤ
areas g = map (area_of g)

abbrev pub counts_of : Graph → ℕ → List Walk → Counts
counts_of g minimum ws = record {
  contours = length (kept g minimum ws);
  points = sum (lens (kept g minimum ws));
  rejected = length (rejected g minimum ws);
  walked = sum (lens ws);
  left_out = 0;
  kept_area = total (areas g (kept g minimum ws));
  rejected_area = total (areas g (rejected g minimum ws));
}
