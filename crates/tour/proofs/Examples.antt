-- The condition is met: two triangles that touch in a cross, one with a hole and an island in it. And it is sharp: two
-- graphs that pass the checks, do not come by turns, and are refused.
use Rattle.std.specs.Prelude.{ℕ, ◌≡◌, refl, Bool, true, false, not, List, [], ◌∷◌, map, eqb, ℤ, pos, neg_ℤ}
use Rattle.laws.specs.Test.{true≢false}
use Rattle.laws.specs.Lowest.{lowest, some}
use Rattle.graph.specs.Graph.{Lent, lent, Graph, graph_of}
use Rattle.laws.specs.Count.{count}
use Rattle.graph.specs.Checks.{room, nodes_checked, each_checked, links_checked, checked}
use Rattle.next.specs.Next.{unvisited_in, next_link, first_link}
use Rattle.walk.specs.Walk.{Step, walk_on, walk_from}
use Rattle.scan.specs.Scan.{stopped, walks, scan_on, scan}
use Rattle.tour.specs.Statement.{leaves, how_many, ComesByTurns, link_total, Toured}
use Rattle.tour.proofs.Demand.{third_demand}
use Rattle.tour.specs.Decide.{comes_by_turns}
use Rattle.tour.proofs.Decide.{comes_exactly}
use Rattle.turn.specs.Refusals.{no_fault}
use Rattle.turn.specs.declared.Reason.TheVariants.{NoNextLink, WrongLastLink}

abbrev p : ℕ → ℤ
p = pos

abbrev m : ℕ → ℤ
m n = neg_ℤ (pos n)

abbrev fw : ℕ → Step
fw k = record { link = k; forward = true }

abbrev bw : ℕ → Step
bw k = record { link = k; forward = false }

-- ---- triangle (0,0) (24,-12) (24,12) with the hole (8,0) (20,8) (20,-8) and in the hole the island (14,0) (18,-2)
-- (18,2); triangle (-4,-2) (0,0) (-4,2) touches it
abbrev island : Lent
island = lent
    (m 4 ∷ m 4 ∷ m 4 ∷ p 0 ∷ p 0 ∷ p 8 ∷ p 8 ∷ p 14 ∷ p 14 ∷ p 18 ∷ p 20 ∷ p 24 ∷ [])
    (m 2 ∷ m 2 ∷ p 2 ∷ p 0 ∷ p 0 ∷ p 0 ∷ p 0 ∷ p 0 ∷ p 0 ∷ m 2 ∷ m 8 ∷ m 12 ∷ [])
    (p 0 ∷ m 4 ∷ p 0 ∷ p 24 ∷ p 24 ∷ p 20 ∷ p 20 ∷ p 18 ∷ p 18 ∷ p 18 ∷ p 20 ∷ p 24 ∷ [])
    (p 0 ∷ p 2 ∷ p 0 ∷ m 12 ∷ p 12 ∷ p 8 ∷ m 8 ∷ m 2 ∷ p 2 ∷ p 2 ∷ p 8 ∷ p 12 ∷ [])
    (0 ∷ 0 ∷ 1 ∷ 2 ∷ 2 ∷ 3 ∷ 3 ∷ 4 ∷ 4 ∷ 5 ∷ 7 ∷ 9 ∷ [])
    (2 ∷ 1 ∷ 2 ∷ 9 ∷ 10 ∷ 8 ∷ 7 ∷ 5 ∷ 6 ∷ 6 ∷ 8 ∷ 10 ∷ [])
    (0 ∷ 2 ∷ 4 ∷ 8 ∷ 10 ∷ 12 ∷ 14 ∷ 16 ∷ 18 ∷ 20 ∷ 22 ∷ 24 ∷ [])
    (0 ∷ 1 ∷ 1 ∷ 2 ∷ 0 ∷ 2 ∷ 3 ∷ 4 ∷ 5 ∷ 6 ∷ 7 ∷ 8 ∷ 7 ∷ 9 ∷ 8 ∷ 9 ∷ 6 ∷ 10 ∷ 5 ∷ 10 ∷ 3 ∷ 11 ∷ 4 ∷ 11 ∷ [])

abbrev island_tops : List ℕ
island_tops = 1 ∷ 0 ∷ 0 ∷ 1 ∷ 0 ∷ 1 ∷ 0 ∷ 1 ∷ 0 ∷ 1 ∷ 0 ∷ 1 ∷ []

abbrev island_states : List ℕ
island_states = 0 ∷ 0 ∷ 0 ∷ 0 ∷ 0 ∷ 0 ∷ 0 ∷ 0 ∷ 0 ∷ 0 ∷ 0 ∷ 0 ∷ []

abbrev island_graph : Graph
island_graph = graph_of island island_tops

island_fine : checked island island_tops island_states (room 24 4 4 4) ≡ no_fault
unfolding checked links_checked each_checked nodes_checked lowest count
island_fine = refl

island_test : comes_by_turns island_graph island_states 11 ≡ true
unfolding lowest
island_test = refl

pub island_turns : ComesByTurns island_graph island_states
island_turns = (comes_exactly island island_tops island_states (room 24 4 4 4) island_fine).to island_test

-- the theorem, both directions
pub island_toured : (cw : Bool) → Toured island_graph cw island_states
island_toured cw = third_demand island island_tops island_states (room 24 4 4 4) cw island_fine island_turns

-- 16 + 576 - 192 + 16, and for clockwise output the opposite
island_total : link_total island_graph false island_states ≡ p 416
island_total = refl

island_total_clockwise : link_total island_graph true island_states ≡ m 416
island_total_clockwise = refl

island_walks : scan island_graph false island_states ≡ walks
    ((record { hole = false; steps = bw 1 ∷ fw 0 ∷ bw 2 ∷ [] })
    ∷ (record { hole = false; steps = bw 4 ∷ fw 3 ∷ fw 11 ∷ [] })
    ∷ (record { hole = true; steps = fw 5 ∷ bw 10 ∷ bw 6 ∷ [] })
    ∷ (record { hole = false; steps = bw 8 ∷ fw 7 ∷ fw 9 ∷ [] })
    ∷ []) (3 ∷ 3 ∷ 3 ∷ 3 ∷ 3 ∷ 2 ∷ 2 ∷ 3 ∷ 3 ∷ 3 ∷ 2 ∷ 3 ∷ [])
unfolding scan_on walk_on walk_from next_link first_link lowest
island_walks = refl

-- ---- triangles (0,0) (4,3) (5,-1) and (0,0) (5,1) (4,-3): at the cross (0,0) two links that leave come after two that arrive; as many, but not by turns
abbrev crossed : Lent
crossed = lent
    (p 0 ∷ p 0 ∷ p 0 ∷ p 0 ∷ p 4 ∷ p 4 ∷ [])
    (p 0 ∷ p 0 ∷ p 0 ∷ p 0 ∷ m 3 ∷ p 3 ∷ [])
    (p 4 ∷ p 5 ∷ p 5 ∷ p 4 ∷ p 5 ∷ p 5 ∷ [])
    (p 3 ∷ m 1 ∷ p 1 ∷ m 3 ∷ p 1 ∷ m 1 ∷ [])
    (0 ∷ 0 ∷ 0 ∷ 0 ∷ 1 ∷ 2 ∷ [])
    (2 ∷ 3 ∷ 4 ∷ 1 ∷ 4 ∷ 3 ∷ [])
    (0 ∷ 4 ∷ 6 ∷ 8 ∷ 10 ∷ 12 ∷ [])
    (0 ∷ 1 ∷ 2 ∷ 3 ∷ 3 ∷ 4 ∷ 0 ∷ 5 ∷ 1 ∷ 5 ∷ 2 ∷ 4 ∷ [])

abbrev crossed_tops : List ℕ
crossed_tops = 1 ∷ 0 ∷ 1 ∷ 0 ∷ 0 ∷ 1 ∷ []

abbrev crossed_states : List ℕ
crossed_states = 0 ∷ 0 ∷ 0 ∷ 0 ∷ 0 ∷ 0 ∷ []

abbrev crossed_graph : Graph
crossed_graph = graph_of crossed crossed_tops

crossed_fine : checked crossed crossed_tops crossed_states (room 12 2 2 2) ≡ no_fault
unfolding checked links_checked each_checked nodes_checked lowest count
crossed_fine = refl

-- at each of the five nodes as many links leave as arrive
abbrev sorts_at : ℕ → List Bool
sorts_at v = map (leaves crossed_graph v) (unvisited_in crossed_states (crossed_graph.entries v))

crossed_as_many : some (λ v. not (eqb (how_many true (sorts_at v)) (how_many false (sorts_at v)))) 5 ≡ false
unfolding lowest
crossed_as_many = refl

crossed_test : comes_by_turns crossed_graph crossed_states 5 ≡ false
unfolding lowest
crossed_test = refl

pub crossed_not_by_turns : ComesByTurns crossed_graph crossed_states → ⊥
crossed_not_by_turns t = true≢false ((comes_exactly crossed crossed_tops crossed_states (room 12 2 2 2) crossed_fine).from t) crossed_test

pub crossed_refused : scan crossed_graph false crossed_states ≡ stopped WrongLastLink 0
unfolding scan_on walk_on walk_from next_link first_link lowest
crossed_refused = refl

-- ---- E7: the square with link 0 skipped; at two nodes one link is left
abbrev square : Lent
square = lent (p 0 ∷ p 0 ∷ p 0 ∷ p 4 ∷ []) (p 0 ∷ p 0 ∷ p 4 ∷ p 0 ∷ []) (p 4 ∷ p 0 ∷ p 4 ∷ p 4 ∷ []) (p 0 ∷ p 4 ∷ p 4 ∷ p 4 ∷ [])
    (0 ∷ 0 ∷ 1 ∷ 2 ∷ []) (2 ∷ 1 ∷ 3 ∷ 3 ∷ []) (0 ∷ 2 ∷ 4 ∷ 6 ∷ 8 ∷ []) (0 ∷ 1 ∷ 1 ∷ 2 ∷ 0 ∷ 3 ∷ 2 ∷ 3 ∷ [])

abbrev square_tops : List ℕ
square_tops = 1 ∷ 0 ∷ 0 ∷ 1 ∷ []

abbrev square_states : List ℕ
square_states = 1 ∷ 0 ∷ 0 ∷ 0 ∷ []

abbrev square_graph : Graph
square_graph = graph_of square square_tops

square_fine : checked square square_tops square_states (room 8 1 1 1) ≡ no_fault
unfolding checked links_checked each_checked nodes_checked lowest count
square_fine = refl

square_test : comes_by_turns square_graph square_states 4 ≡ false
unfolding lowest
square_test = refl

pub square_not_by_turns : ComesByTurns square_graph square_states → ⊥
square_not_by_turns t = true≢false ((comes_exactly square square_tops square_states (room 8 1 1 1) square_fine).from t) square_test

pub square_refused : scan square_graph false square_states ≡ stopped NoNextLink 1
unfolding scan_on walk_on walk_from next_link first_link lowest
square_refused = refl
