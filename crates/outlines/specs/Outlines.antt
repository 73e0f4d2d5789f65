-- Extraction with its settings: the contours of document 01, and where it is asked for the rule that drops points on a straight line (document 02, a)).
-- "Demand 2 reads: the old contours, then this rule."
use Rattle.std.specs.Prelude.{ℕ, suc, Bool, List, [], ◌∷◌, ◌++◌, map, length, leb, pos, Ok, Err}
use Rattle.laws.specs.Test.{pick}
use Rattle.laws.specs.Lists.{padded}
use Rattle.turn.specs.declared.Point.{Point}
use Rattle.graph.specs.Graph.{Graph, Lent, graph_of}
use Rattle.graph.specs.Checks.{checked, room}
use Rattle.walk.specs.Walk.{Walk, points}
use Rattle.keep.specs.declared.Counts.{Counts}
use Rattle.keep.specs.Outcome.{kept, rejected, lens, firsts, coordinates, sum, total, areas, states_after}
use Rattle.contour.specs.declared.Settings.{Settings}
use Rattle.scan.specs.Scan.{Scanned, stopped, walks, scan}
use Rattle.finish.specs.Finish.{Buffers, buffers}
use Rattle.extraction.specs.Extract.{Extracted, done, refusal, zeroed, after_scan, extracted}
use Rattle.straight.specs.Straight.{drop_straight}
use Rattle.turn.specs.Refusals.{Checked}

-- a contour as it is written: whether it is a hole, and its points
pub record Outline : Type 0 where
  pub hole : Bool
  pub points : List Point

-- the contour of a walk, with its points on a straight line dropped
abbrev pub straightened : Graph → Walk → Outline
straightened g w = record { hole = w.hole; points = drop_straight (points g w) }

-- "if fewer [than 3 points remain], the contour is left out and counted apart from rejected walks"
abbrev pub is_whole : Outline → Bool
is_whole o = leb 3 (length o.points)

abbrev pub whole : List Outline → List Outline
whole [] = []
whole (o ∷ os) = pick (is_whole o) (o ∷ whole os) (whole os)

abbrev pub left_out : List Outline → ℕ
left_out [] = 0
left_out (o ∷ os) = pick (is_whole o) (left_out os) (suc (left_out os))

-- ---- the contour table of some outlines
abbrev pub outline_sizes : List Outline → List ℕ
outline_sizes = map (λ o. length o.points)

abbrev pub outline_kinds : List Outline → List ℕ
outline_kinds = map (λ o. pick o.hole 1 0)

abbrev pub outline_points : List Outline → List Point
outline_points [] = []
outline_points (o ∷ os) = o.points ++ outline_points os

-- ---- what extraction leaves: kept or not, links walked, rejected walks, states and both totals are those of the walks before removal
abbrev pub outlines_of : Graph → ℕ → List Walk → List Outline
outlines_of g minimum ws = map (straightened g) (kept g minimum ws)

abbrev pub straight_counts : Graph → ℕ → List Walk → Counts
straight_counts g minimum ws = record {
  contours = length (whole (outlines_of g minimum ws));
  points = sum (outline_sizes (whole (outlines_of g minimum ws)));
  rejected = length (rejected g minimum ws);
  walked = sum (lens ws);
  left_out = left_out (outlines_of g minimum ws);
  kept_area = total (areas g (kept g minimum ws));
  rejected_area = total (areas g (rejected g minimum ws));
}

abbrev pub after_straight : Graph → ℕ → List Walk → Buffers → Buffers
after_straight g minimum ws b = let os : List Outline = whole (outlines_of g minimum ws) in
    buffers (states_after ws b.state) (padded (pos 0) (coordinates (outline_points os)) (length b.points))
    (padded 0 (firsts 0 (outline_sizes os)) (length b.first))
    (padded 0 (outline_sizes os) (length b.len))
    (padded 0 (outline_kinds os) (length b.kind))

-- a refusal is what it was
abbrev pub straight_scan : Graph → ℕ → Buffers → Scanned → Extracted
straight_scan g minimum b (stopped reason place) = refusal reason place (zeroed b)
straight_scan g minimum b (walks ws st) = done (straight_counts g minimum ws) (after_straight g minimum ws b)

abbrev pub straight_checks : Graph → Bool → ℕ → Buffers → Checked → Extracted
straight_checks g clockwise minimum b (Err r) = refusal r.reason r.place b
straight_checks g clockwise minimum b (Ok u) = straight_scan g minimum b (scan g clockwise b.state)

unfoldable pub extracted_straight : Lent → List ℕ → Bool → ℕ → Buffers → Extracted
extracted_straight g top clockwise minimum b =
    straight_checks (graph_of g top) clockwise minimum b
    (checked g top b.state (room (length b.points) (length b.first) (length b.len) (length b.kind)))

-- ---- after the scan of a graph that passes its checks
abbrev pub drawn : Graph → Settings → Buffers → Scanned → Extracted
drawn g settings b o = pick settings.drop_straight (straight_scan g settings.minimum b o) (after_scan g settings.minimum b o)

-- ---- extraction as its settings ask for it: with the setting off, that of document 01
abbrev pub outlined : Lent → List ℕ → Settings → Buffers → Extracted
outlined g top settings b =
    pick settings.drop_straight (extracted_straight g top settings.clockwise settings.minimum b)
    (extracted g top settings.clockwise settings.minimum b)
