-- E1 to E10 of document 01: one table, each row an input with the whole of its answer, proved by one statement.
use Rattle.std.specs.Prelude.{ℕ, ◌+◌, ◌≡◌, refl, Bool, true, false, List, [], ◌∷◌, replicate, ℤ, pos, neg_ℤ, Ok}
use Rattle.laws.specs.Lowest.{lowest}
use Rattle.laws.specs.Count.{count}
use Rattle.graph.specs.Graph.{Graph, Lent, lent, graph_of}
use Rattle.graph.specs.Examples.{square, tops, unvisited}
use Rattle.next.specs.Next.{next_link, first_link}
use Rattle.walk.specs.Walk.{Walk, walk_on, walk_from}
use Rattle.keep.specs.Outcome.{areas, rejected}
use Rattle.scan.specs.Scan.{Scanned, stopped, walks, scan_on, scan}
use Rattle.extraction.specs.Extract.{Extracted, extracted_as, extracted}
use Rattle.finish.specs.Finish.{Buffers, buffers}
use Rattle.extraction.specs.Examples.{nines, fan, fan_tops, e1, e2, e3, e4, e5, e6, e6_rejected, e7, e8}
use Rattle.table.specs.Table.{Table}
use Rattle.table.specs.Examples.{e9, e10, e10_one}
use Rattle.anchor.specs.AnchorChecks.{hole_before}
use Rattle.edges.specs.Edges.{lies_under, wins_tie, nearer}
use Rattle.candidates.specs.Candidates.{edge}
use Rattle.nearest.specs.Search.{kept, offered, keep, nearest, contour_under}
use Rattle.order.specs.HoleOrder.{slot}
use Rattle.owners.specs.Owners.{contour_below}
use Rattle.bind.specs.Outcome.{bound_to, Outcome, outcome, bound}
use Rattle.bind.specs.Examples.{e9_bound, e10_bound, e10_one_lem}
use Rattle.turn.specs.Refusals.{refused}
use Rattle.turn.specs.declared.Reason.TheVariants.{NoNextLink, NoParent}

-- a graph that is lent to extraction, with all that is then answered and left in the lent buffers, or with the doubled areas of the walks
-- that are rejected; a table that is lent to binding, or the contour whose edge is the nearest under a hole's anchor
pub data Row : Type 0 where
  extraction : (g : Lent) (top : List ℕ) (clockwise : Bool) (minimum : ℕ) (b : Buffers) (answer : Extracted) → Row
  rejections : (g : Lent) (top : List ℕ) (clockwise : Bool) (minimum : ℕ) (state : List ℕ) (doubled : List ℤ) → Row
  hole_binding : (t : Table) (clockwise : Bool) (owner : List ℕ) (answer : Outcome) → Row
  through : (t : Table) (clockwise : Bool) (hole contour : ℕ) → Row

abbrev walks_of : Scanned → List Walk
walks_of (stopped reason place) = []
walks_of (walks ws st) = ws

-- the doubled areas of the rejected walks, one by one
abbrev rejected_areas : Graph → Bool → ℕ → List ℕ → List ℤ
rejected_areas g clockwise minimum state = areas g (rejected g minimum (walks_of (scan g clockwise state)))

abbrev pub Holds : Row → Type 0
Holds (extraction g top clockwise minimum b answer) = extracted g top clockwise minimum b ≡ answer
Holds (rejections g top clockwise minimum state doubled) = rejected_areas (graph_of g top) clockwise minimum state ≡ doubled
Holds (hole_binding t clockwise owner answer) = bound t clockwise owner ≡ answer
Holds (through t clockwise hole contour) = contour_below t clockwise hole ≡ contour + 1

abbrev pub AllHold : List Row → Type 0
AllHold [] = Unit {0}
AllHold (r ∷ rows) = Holds r × AllHold rows

abbrev p : ℕ → ℤ
p = pos

abbrev m : ℕ → ℤ
m n = neg_ℤ (pos n)

abbrev none : List ℕ
none = 0 ∷ 0 ∷ []

-- the triangle of E6
abbrev triangle : Lent
triangle =
    lent (p 0 ∷ p 0 ∷ p 0 ∷ []) (p 0 ∷ p 0 ∷ p 1 ∷ []) (p 0 ∷ p 1 ∷ p 1 ∷ []) (p 1 ∷ p 0 ∷ p 0 ∷ []) (0 ∷ 0 ∷ 1 ∷ []) (1 ∷ 2 ∷ 2 ∷ [])
    (0 ∷ 2 ∷ 4 ∷ 6 ∷ []) (0 ∷ 1 ∷ 0 ∷ 2 ∷ 1 ∷ 2 ∷ [])

-- one hull (0,4) (0,0) (4,0) (4,4), doubled area 32
abbrev hull : Extracted
hull = extracted_as (Ok (record { contours = 1; points = 4; rejected = 0; walked = 4; left_out = 0; kept_area = p 32; rejected_area = p 0 }))
    (buffers (3 ∷ 3 ∷ 3 ∷ 3 ∷ []) (p 0 ∷ p 4 ∷ p 0 ∷ p 0 ∷ p 4 ∷ p 0 ∷ p 4 ∷ p 4 ∷ p 0 ∷ p 0 ∷ []) none (4 ∷ 0 ∷ []) none)

-- The buffers that are lent hold nines, with room to spare, and the owners sevens.
abbrev pub rows : List Row
rows =
    -- E1: no links, no nodes: done, nothing found
    extraction (lent [] [] [] [] [] [] (0 ∷ []) []) [] false 0 (nines [] 1 1)
    (extracted_as (Ok (record { contours = 0; points = 0; rejected = 0; walked = 0; left_out = 0; kept_area = p 0; rejected_area = p 0 }))
    (buffers [] (p 0 ∷ p 0 ∷ []) (0 ∷ []) (0 ∷ []) (0 ∷ [])))
    -- E2: the square, counterclockwise, minimum 0
    ∷ extraction square tops false 0 (nines unvisited 5 2) hull
    -- E3: E2 clockwise: (0,0) (0,4) (4,4) (4,0)
    ∷ extraction square tops true 0 (nines unvisited 5 2)
    (extracted_as (Ok (record { contours = 1; points = 4; rejected = 0; walked = 4; left_out = 0; kept_area = m 32; rejected_area = p 0 }))
    (buffers (3 ∷ 3 ∷ 3 ∷ 3 ∷ []) (p 0 ∷ p 0 ∷ p 0 ∷ p 4 ∷ p 4 ∷ p 4 ∷ p 4 ∷ p 0 ∷ p 0 ∷ p 0 ∷ []) none (4 ∷ 0 ∷ []) none))
    -- E4: E2 with minimum 16 kept
    ∷ extraction square tops false 16 (nines unvisited 5 2) hull
    -- E5: 17 rejected, links walked 4
    ∷ extraction square tops false 17 (nines unvisited 5 2)
    (extracted_as (Ok (record { contours = 0; points = 0; rejected = 1; walked = 4; left_out = 0; kept_area = p 0; rejected_area = p 32 }))
    (buffers (3 ∷ 3 ∷ 3 ∷ 3 ∷ []) (replicate 10 (p 0)) none none none))
    -- E6: the triangle of doubled area 1: minimum 0 keeps, 1 rejects
    ∷ extraction triangle (0 ∷ 1 ∷ 0 ∷ []) false 0 (nines (0 ∷ 0 ∷ 0 ∷ []) 3 1)
    (extracted_as (Ok (record { contours = 1; points = 3; rejected = 0; walked = 3; left_out = 0; kept_area = p 1; rejected_area = p 0 }))
    (buffers (3 ∷ 3 ∷ 3 ∷ []) (p 0 ∷ p 1 ∷ p 0 ∷ p 0 ∷ p 1 ∷ p 0 ∷ []) (0 ∷ []) (3 ∷ []) (0 ∷ [])))
    ∷ extraction triangle (0 ∷ 1 ∷ 0 ∷ []) false 1 (nines (0 ∷ 0 ∷ 0 ∷ []) 3 1)
    (extracted_as (Ok (record { contours = 0; points = 0; rejected = 1; walked = 3; left_out = 0; kept_area = p 0; rejected_area = p 1 }))
    (buffers (3 ∷ 3 ∷ 3 ∷ []) (replicate 6 (p 0)) (0 ∷ []) (0 ∷ []) (0 ∷ [])))
    -- E7: E2 with link 0 skipped: 8 at 1
    ∷ extraction square tops false 0 (nines (1 ∷ 0 ∷ 0 ∷ 0 ∷ []) 5 2)
    (extracted_as (refused NoNextLink 1) (buffers (1 ∷ 0 ∷ 0 ∷ 0 ∷ []) (replicate 10 (p 0)) none none none))
    -- E8: two walks of doubled area 2 rejected; one hull (10,-10) (0,0) (10,-20), doubled 100
    ∷ extraction fan fan_tops false 2 (nines (replicate 9 0) 9 3)
    (extracted_as (Ok (record { contours = 1; points = 3; rejected = 2; walked = 9; left_out = 0; kept_area = p 100; rejected_area = p 4 }))
    (buffers (replicate 9 3) (p 10 ∷ m 10 ∷ p 0 ∷ p 0 ∷ p 10 ∷ m 20 ∷ replicate 12 (p 0)) (0 ∷ 0 ∷ 0 ∷ []) (3 ∷ 0 ∷ 0 ∷ []) (0 ∷ 0 ∷ 0 ∷ [])))
    ∷ rejections fan fan_tops false 2 (replicate 9 0) (p 2 ∷ p 2 ∷ [])
    -- E9: both holes get shape 1, the first from the hull, contour 1, the second through the first, contour 2
    ∷ hole_binding e9 false (7 ∷ 7 ∷ 7 ∷ 7 ∷ 7 ∷ []) (outcome (bound_to 2 0) (0 ∷ 1 ∷ 1 ∷ 1 ∷ 7 ∷ []))
    ∷ through e9 false 2 1
    ∷ through e9 false 3 2
    -- E10: 12 at 3; with only the first hull lent, both get 0
    ∷ hole_binding e10 false (7 ∷ 7 ∷ 7 ∷ 7 ∷ []) (outcome (refused NoParent 3) (7 ∷ 7 ∷ 7 ∷ 7 ∷ []))
    ∷ hole_binding e10_one false (7 ∷ 7 ∷ 7 ∷ []) (outcome (bound_to 1 0) (0 ∷ 0 ∷ 0 ∷ []))
    ∷ []

e8_rejects : Holds (rejections fan fan_tops false 2 (replicate 9 0) (p 2 ∷ p 2 ∷ []))
unfolding scan_on walk_on walk_from next_link first_link lowest
e8_rejects = refl

e9_first : Holds (through e9 false 2 1)
unfolding lowest count hole_before lies_under wins_tie nearer edge kept offered keep nearest contour_under slot
e9_first = refl

e9_second : Holds (through e9 false 3 2)
unfolding lowest count hole_before lies_under wins_tie nearer edge kept offered keep nearest contour_under slot
e9_second = refl

pub worked : AllHold rows
worked = (e1, (e2, (e3, (e4, (e5, (e6, (e6_rejected, (e7, (e8, (e8_rejects, (e9_bound, (e9_first, (e9_second, (e10_bound, (e10_one_lem, tt)))))))))))))))
