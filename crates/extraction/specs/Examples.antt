-- The worked examples E1 to E8 of document 01, computed from the definition: the answer and every lent buffer, and for E2, E3 and E8 the walks.
-- All lent buffers hold nines, and have room to spare, so that what is written and what is zero shows.
use Rattle.std.specs.Prelude.{ℕ, ◌*◌, ◌≡◌, refl, Bool, true, false, List, [], ◌∷◌, replicate, ℤ, pos, neg_ℤ, Ok}
use Rattle.laws.specs.Lowest.{lowest}
use Rattle.laws.specs.Count.{count}
use Rattle.graph.specs.Checks.{nodes_checked, each_checked, links_checked, checked}
use Rattle.graph.specs.Graph.{Lent, lent, graph_of}
use Rattle.graph.specs.Examples.{square, tops, unvisited}
use Rattle.next.specs.Next.{next_link, first_link}
use Rattle.walk.specs.Walk.{Step, Walk, walk_on, walk_from}
use Rattle.scan.specs.Scan.{walks, scan_on, scan}
use Rattle.keep.specs.Outcome.{areas}
use Rattle.extraction.specs.Extract.{Extracted, extracted_as, extracted}
use Rattle.finish.specs.Finish.{Buffers, buffers}
use Rattle.turn.specs.Refusals.{refused}
use Rattle.turn.specs.declared.Reason.TheVariants.{NoNextLink}

abbrev p : ℕ → ℤ
p = pos

abbrev m : ℕ → ℤ
m n = neg_ℤ (pos n)

-- a link walked from its a to its b, and one walked back
abbrev fw : ℕ → Step
fw k = record { link = k; forward = true }

abbrev bw : ℕ → Step
bw k = record { link = k; forward = false }

-- buffers of nines, with room for so many points and contours
abbrev pub nines : List ℕ → ℕ → ℕ → Buffers
nines state points contours = buffers state (replicate (2 * points) (p 9)) (replicate contours 9) (replicate contours 9) (replicate contours 9)

-- ---- E1: no links, no nodes
pub e1 : extracted (lent [] [] [] [] [] [] (0 ∷ []) []) [] false 0 (nines [] 1 1)
    ≡ extracted_as (Ok (record { contours = 0; points = 0; rejected = 0; walked = 0; left_out = 0; kept_area = p 0; rejected_area = p 0 }))
    (buffers [] (p 0 ∷ p 0 ∷ []) (0 ∷ []) (0 ∷ []) (0 ∷ []))
unfolding extracted checked links_checked each_checked nodes_checked lowest count scan_on
e1 = refl

-- ---- E2 to E5 and E7: the square
abbrev pub extract_square : Bool → ℕ → List ℕ → Extracted
extract_square clockwise minimum state = extracted square tops clockwise minimum (nines state 5 2)

-- one hull (0,4) (0,0) (4,0) (4,4), doubled area 32
abbrev pub one_hull : Extracted
one_hull =
    extracted_as (Ok (record { contours = 1; points = 4; rejected = 0; walked = 4; left_out = 0; kept_area = p 32; rejected_area = p 0 }))
    (buffers (3 ∷ 3 ∷ 3 ∷ 3 ∷ []) (p 0 ∷ p 4 ∷ p 0 ∷ p 0 ∷ p 4 ∷ p 0 ∷ p 4 ∷ p 4 ∷ p 0 ∷ p 0 ∷ []) (0 ∷ 0 ∷ []) (4 ∷ 0 ∷ []) (0 ∷ 0 ∷ []))

pub e2 : extract_square false 0 unvisited ≡ one_hull
unfolding extracted checked links_checked each_checked nodes_checked lowest count scan_on walk_on walk_from next_link first_link
e2 = refl

e2_walks : scan (graph_of square tops) false unvisited ≡ walks ((record { hole = false; steps = bw 1 ∷ fw 0 ∷ fw 3 ∷ bw 2 ∷ [] }) ∷ []) (3 ∷ 3 ∷ 3 ∷ 3 ∷ [])
unfolding scan_on walk_on walk_from next_link first_link lowest
e2_walks = refl

-- E3: clockwise, (0,0) (0,4) (4,4) (4,0)
pub e3 : extract_square true 0 unvisited
    ≡ extracted_as (Ok (record { contours = 1; points = 4; rejected = 0; walked = 4; left_out = 0; kept_area = m 32; rejected_area = p 0 }))
    (buffers (3 ∷ 3 ∷ 3 ∷ 3 ∷ []) (p 0 ∷ p 0 ∷ p 0 ∷ p 4 ∷ p 4 ∷ p 4 ∷ p 4 ∷ p 0 ∷ p 0 ∷ p 0 ∷ []) (0 ∷ 0 ∷ []) (4 ∷ 0 ∷ []) (0 ∷ 0 ∷ []))
unfolding extracted checked links_checked each_checked nodes_checked lowest count scan_on walk_on walk_from next_link first_link
e3 = refl

e3_walks : scan (graph_of square tops) true unvisited ≡ walks ((record { hole = false; steps = fw 1 ∷ fw 2 ∷ bw 3 ∷ bw 0 ∷ [] }) ∷ []) (3 ∷ 3 ∷ 3 ∷ 3 ∷ [])
unfolding scan_on walk_on walk_from next_link first_link lowest
e3_walks = refl

-- E4: minimum 16 keeps
pub e4 : extract_square false 16 unvisited ≡ one_hull
unfolding extracted checked links_checked each_checked nodes_checked lowest count scan_on walk_on walk_from next_link first_link
e4 = refl

-- E5: 17 rejects, links walked 4
pub e5 : extract_square false 17 unvisited
    ≡ extracted_as (Ok (record { contours = 0; points = 0; rejected = 1; walked = 4; left_out = 0; kept_area = p 0; rejected_area = p 32 }))
    (buffers (3 ∷ 3 ∷ 3 ∷ 3 ∷ []) (replicate 10 (p 0)) (0 ∷ 0 ∷ []) (0 ∷ 0 ∷ []) (0 ∷ 0 ∷ []))
unfolding extracted checked links_checked each_checked nodes_checked lowest count scan_on walk_on walk_from next_link first_link
e5 = refl

-- E7: link 0 skipped
pub e7 : extract_square false 0 (1 ∷ 0 ∷ 0 ∷ 0 ∷ [])
    ≡ extracted_as (refused NoNextLink 1) (buffers (1 ∷ 0 ∷ 0 ∷ 0 ∷ []) (replicate 10 (p 0)) (0 ∷ 0 ∷ []) (0 ∷ 0 ∷ []) (0 ∷ 0 ∷ []))
unfolding extracted checked links_checked each_checked nodes_checked lowest count scan_on walk_on walk_from next_link first_link
e7 = refl

-- ---- E6: a triangle of doubled area 1
abbrev pub extract_triangle : ℕ → Extracted
extract_triangle minimum =
    extracted
    (lent (p 0 ∷ p 0 ∷ p 0 ∷ []) (p 0 ∷ p 0 ∷ p 1 ∷ []) (p 0 ∷ p 1 ∷ p 1 ∷ []) (p 1 ∷ p 0 ∷ p 0 ∷ []) (0 ∷ 0 ∷ 1 ∷ []) (1 ∷ 2 ∷ 2 ∷ [])
    (0 ∷ 2 ∷ 4 ∷ 6 ∷ []) (0 ∷ 1 ∷ 0 ∷ 2 ∷ 1 ∷ 2 ∷ []))
    (0 ∷ 1 ∷ 0 ∷ []) false minimum (nines (0 ∷ 0 ∷ 0 ∷ []) 3 1)

-- minimum 0 keeps it
pub e6 : extract_triangle 0
    ≡ extracted_as (Ok (record { contours = 1; points = 3; rejected = 0; walked = 3; left_out = 0; kept_area = p 1; rejected_area = p 0 }))
    (buffers (3 ∷ 3 ∷ 3 ∷ []) (p 0 ∷ p 1 ∷ p 0 ∷ p 0 ∷ p 1 ∷ p 0 ∷ []) (0 ∷ []) (3 ∷ []) (0 ∷ []))
unfolding extracted checked links_checked each_checked nodes_checked lowest count scan_on walk_on walk_from next_link first_link
e6 = refl

-- 1 rejects it
pub e6_rejected : extract_triangle 1
    ≡ extracted_as (Ok (record { contours = 0; points = 0; rejected = 1; walked = 3; left_out = 0; kept_area = p 0; rejected_area = p 1 }))
    (buffers (3 ∷ 3 ∷ 3 ∷ []) (replicate 6 (p 0)) (0 ∷ []) (0 ∷ []) (0 ∷ []))
unfolding extracted checked links_checked each_checked nodes_checked lowest count scan_on walk_on walk_from next_link first_link
e6_rejected = refl

-- ---- E8, of difference D1: two walks of doubled area 2 rejected; one hull (10,-10) (0,0) (10,-20), doubled 100
abbrev pub fan : Lent
fan = lent (p 0 ∷ p 0 ∷ p 0 ∷ p 0 ∷ p 0 ∷ p 0 ∷ p 2 ∷ p 2 ∷ p 10 ∷ [])
    (p 0 ∷ p 0 ∷ p 0 ∷ p 0 ∷ p 0 ∷ p 0 ∷ m 1 ∷ p 1 ∷ m 20 ∷ [])
    (p 10 ∷ p 10 ∷ p 2 ∷ p 2 ∷ p 2 ∷ p 2 ∷ p 2 ∷ p 2 ∷ p 10 ∷ [])
    (m 20 ∷ m 10 ∷ m 1 ∷ p 0 ∷ p 1 ∷ p 2 ∷ p 0 ∷ p 2 ∷ m 10 ∷ [])
    (0 ∷ 0 ∷ 0 ∷ 0 ∷ 0 ∷ 0 ∷ 1 ∷ 3 ∷ 5 ∷ [])
    (5 ∷ 6 ∷ 1 ∷ 2 ∷ 3 ∷ 4 ∷ 2 ∷ 4 ∷ 6 ∷ [])
    (0 ∷ 6 ∷ 8 ∷ 10 ∷ 12 ∷ 14 ∷ 16 ∷ 18 ∷ [])
    (0 ∷ 1 ∷ 2 ∷ 3 ∷ 4 ∷ 5 ∷ 2 ∷ 6 ∷ 3 ∷ 6 ∷ 4 ∷ 7 ∷ 5 ∷ 7 ∷ 0 ∷ 8 ∷ 1 ∷ 8 ∷ [])

abbrev pub fan_tops : List ℕ
fan_tops = 1 ∷ 0 ∷ 1 ∷ 0 ∷ 1 ∷ 0 ∷ 1 ∷ 1 ∷ 1 ∷ []

pub e8 : extracted fan fan_tops false 2 (nines (replicate 9 0) 9 3)
    ≡ extracted_as (Ok (record { contours = 1; points = 3; rejected = 2; walked = 9; left_out = 0; kept_area = p 100; rejected_area = p 4 }))
    (buffers (replicate 9 3) (p 10 ∷ m 10 ∷ p 0 ∷ p 0 ∷ p 10 ∷ m 20 ∷ replicate 12 (p 0)) (0 ∷ 0 ∷ 0 ∷ []) (3 ∷ 0 ∷ 0 ∷ []) (0 ∷ 0 ∷ 0 ∷ []))
unfolding extracted checked links_checked each_checked nodes_checked lowest count scan_on walk_on walk_from next_link first_link
e8 = refl

abbrev fan_walks : List Walk
fan_walks =
    (record { hole = false; steps = bw 5 ∷ fw 4 ∷ fw 7 ∷ [] })
    ∷ (record { hole = false; steps = bw 3 ∷ fw 2 ∷ fw 6 ∷ [] })
    ∷ (record { hole = false; steps = bw 1 ∷ fw 0 ∷ fw 8 ∷ [] })
    ∷ []

e8_walks : scan (graph_of fan fan_tops) false (replicate 9 0) ≡ walks fan_walks (replicate 9 3)
unfolding scan_on walk_on walk_from next_link first_link lowest
e8_walks = refl

e8_areas : areas (graph_of fan fan_tops) fan_walks ≡ p 2 ∷ p 2 ∷ p 100 ∷ []
e8_areas = refl
