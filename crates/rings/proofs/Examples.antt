-- Worked examples: a `Cross` of four links, and one of six of which
-- one is skipped, one runs straight up and one straight down.
use Rattle.std.specs.Prelude.{ℕ, ◌≡◌, refl, Bool, true, false, List, [], ◌∷◌, ℤ, pos, neg_ℤ, get_or, Some, None}
use Rattle.std.proofs.Common.{arith}
use Rattle.laws.specs.Lowest.{lowest}
use Rattle.laws.specs.Count.{count}
use Rattle.graph.specs.Graph.{Lent, lent, Graph, graph_of}
use Rattle.graph.specs.Checks.{room, nodes_checked, each_checked, links_checked, checked}
use Rattle.graph.specs.Fine.{fine}
use Rattle.next.specs.Next.{is_unvisited, next_link, first_link}
use Rattle.next.specs.Choice.{Mem}
use Rattle.rings.specs.Ends.{end_of}
use Rattle.rings.specs.Rotation.{onward, backward, round_from, first_unvisited, last_unvisited}
use Rattle.rings.specs.RingOrder.{Spread, spread_fine}
use Rattle.rings.specs.NextByRing.{marked_entry}
use Rattle.rings.proofs.NextByRing.{next_by_ring}
use Rattle.rings.specs.Linked.{Linked}
use Rattle.rings.specs.RingTest.{is_ring, ring_test}
use Rattle.turn.specs.Refusals.{no_fault}

abbrev p : ℕ → ℤ
p = pos

abbrev m : ℕ → ℤ
m n = neg_ℤ (pos n)

-- ---- two triangles that touch in (0,0): (-2,-1) (-2,1) on its left, (2,-1) (2,1) on its right
abbrev bow : Lent
bow = lent
    (m 2 ∷ m 2 ∷ m 2 ∷ p 0 ∷ p 0 ∷ p 2 ∷ [])
    (m 1 ∷ m 1 ∷ p 1 ∷ p 0 ∷ p 0 ∷ m 1 ∷ [])
    (m 2 ∷ p 0 ∷ p 0 ∷ p 2 ∷ p 2 ∷ p 2 ∷ [])
    (p 1 ∷ p 0 ∷ p 0 ∷ m 1 ∷ p 1 ∷ p 1 ∷ [])
    (0 ∷ 0 ∷ 1 ∷ 2 ∷ 2 ∷ 3 ∷ [])
    (1 ∷ 2 ∷ 2 ∷ 3 ∷ 4 ∷ 4 ∷ [])
    (0 ∷ 2 ∷ 4 ∷ 8 ∷ 10 ∷ 12 ∷ [])
    (0 ∷ 1 ∷ 0 ∷ 2 ∷ 1 ∷ 2 ∷ 3 ∷ 4 ∷ 3 ∷ 5 ∷ 4 ∷ 5 ∷ [])

abbrev bow_tops : List ℕ
bow_tops = 0 ∷ 1 ∷ 0 ∷ 1 ∷ 0 ∷ 1 ∷ []

abbrev unvisited6 : List ℕ
unvisited6 = 0 ∷ 0 ∷ 0 ∷ 0 ∷ 0 ∷ 0 ∷ []

abbrev bow_graph : Graph
bow_graph = graph_of bow bow_tops

bow_fine : checked bow bow_tops unvisited6 (room 12 2 2 2) ≡ no_fault
unfolding checked links_checked each_checked nodes_checked lowest count
bow_fine = refl

-- links 1 and 2 end at node 2, links 3 and 4 start there
abbrev bow_ring : List ℕ
bow_ring = 2 ∷ 1 ∷ 3 ∷ 4 ∷ []

bow_ring_lem : is_ring bow_graph unvisited6 2 bow_ring ≡ true
bow_ring_lem = refl

bow_round : (onward 1 bow_ring ≡ 3 ∷ 4 ∷ 2 ∷ []) × (backward 1 bow_ring ≡ 2 ∷ 4 ∷ 3 ∷ [])
bow_round = (refl, refl)

-- states in which links 1, 1 and 4, 1, 2 and 4, and all four were walked
abbrev walked1 : List ℕ
walked1 = 0 ∷ 3 ∷ 0 ∷ 0 ∷ 0 ∷ 0 ∷ []

abbrev walked14 : List ℕ
walked14 = 0 ∷ 3 ∷ 0 ∷ 0 ∷ 3 ∷ 0 ∷ []

abbrev walked124 : List ℕ
walked124 = 0 ∷ 3 ∷ 3 ∷ 0 ∷ 3 ∷ 0 ∷ []

abbrev walked_all : List ℕ
walked_all = 0 ∷ 3 ∷ 3 ∷ 3 ∷ 3 ∷ 0 ∷ []

-- from link 1, counterclockwise and clockwise
bow_next : (next_link bow_graph false walked1 2 1 ≡ Some 3) × (next_link bow_graph true walked1 2 1 ≡ Some 2)
unfolding next_link
bow_next = (refl, refl)

-- from link 4: past the ring's end; past visited links; where none is left
bow_later : (next_link bow_graph false walked14 2 4 ≡ Some 2) × (next_link bow_graph false walked124 2 4 ≡ Some 3)
    × (next_link bow_graph true walked_all 2 4 ≡ None)
unfolding next_link
bow_later = (refl, refl, refl)

bow_by_ring : (first_unvisited walked14 (round_from false 4 bow_ring) ≡ Some 2)
    × (first_unvisited walked124 (round_from false 4 bow_ring) ≡ Some 3)
    × (first_unvisited walked_all (round_from true 4 bow_ring) ≡ None)
bow_by_ring = (refl, refl, refl)

-- as the law has it, for every state that is reached from the entry states
bow_spread : Spread bow_graph unvisited6 2
bow_spread =
    let h = fine bow bow_tops unvisited6 (room 12 2 2 2) bow_fine in
    spread_fine h.links h.lists h.band 2

bow_law : (st : List ℕ) → ((k : ℕ) → is_unvisited st k ≡ true → is_unvisited unvisited6 k ≡ true)
    → (e : ℕ) → Mem e bow_ring → is_unvisited st e ≡ false
    → (sense : Bool) → next_link bow_graph sense st 2 e ≡ first_unvisited st (round_from sense e bow_ring)
bow_law st reached =
    next_by_ring bow_spread (ring_test bow_graph unvisited6 2 bow_ring bow_ring_lem) (λ e. omega arith) st
    (marked_entry bow_graph unvisited6 2 st reached)

-- the ends 5, 3, 6, 8 of links 2, 1, 3, 4, each at what leads from it and back
bow_linked : Linked bow_graph 2 bow_ring
    (λ h. get_or (0 ∷ 0 ∷ 0 ∷ 6 ∷ 0 ∷ 3 ∷ 8 ∷ 0 ∷ 5 ∷ []) h 0) (λ h. get_or (0 ∷ 0 ∷ 0 ∷ 5 ∷ 0 ∷ 8 ∷ 3 ∷ 0 ∷ 6 ∷ []) h 0)
bow_linked = record { next = (refl, (refl, (refl, refl))); back = (refl, (refl, (refl, refl))) }

-- the scan stands at link 3, the lowest unvisited one
abbrev scanned3 : List ℕ
scanned3 = 3 ∷ 3 ∷ 3 ∷ 0 ∷ 0 ∷ 0 ∷ []

bow_first : (first_link bow_graph scanned3 3 ≡ Some 4) × (last_unvisited scanned3 bow_ring ≡ Some 4)
unfolding first_link
bow_first = (refl, refl)

-- ---- six links at (0,0), node 2: from (-2,0) and (0,-2); to (0,2), (2,-2), (2,0), (2,2).
-- That to (2,0), link 7, is skipped.
abbrev fan : Lent
fan = lent
    (m 2 ∷ m 2 ∷ m 2 ∷ p 0 ∷ p 0 ∷ p 0 ∷ p 0 ∷ p 0 ∷ p 0 ∷ p 0 ∷ p 2 ∷ p 2 ∷ [])
    (p 0 ∷ p 0 ∷ p 0 ∷ m 2 ∷ m 2 ∷ p 0 ∷ p 0 ∷ p 0 ∷ p 0 ∷ p 2 ∷ m 2 ∷ p 0 ∷ [])
    (p 0 ∷ p 0 ∷ p 0 ∷ p 0 ∷ p 2 ∷ p 0 ∷ p 2 ∷ p 2 ∷ p 2 ∷ p 2 ∷ p 2 ∷ p 2 ∷ [])
    (m 2 ∷ p 0 ∷ p 2 ∷ p 0 ∷ m 2 ∷ p 2 ∷ m 2 ∷ p 0 ∷ p 2 ∷ p 2 ∷ p 0 ∷ p 2 ∷ [])
    (0 ∷ 0 ∷ 0 ∷ 1 ∷ 1 ∷ 2 ∷ 2 ∷ 2 ∷ 2 ∷ 3 ∷ 4 ∷ 5 ∷ [])
    (1 ∷ 2 ∷ 3 ∷ 2 ∷ 4 ∷ 3 ∷ 4 ∷ 5 ∷ 6 ∷ 6 ∷ 5 ∷ 6 ∷ [])
    (0 ∷ 3 ∷ 6 ∷ 12 ∷ 15 ∷ 18 ∷ 21 ∷ 24 ∷ [])
    (0 ∷ 1 ∷ 2 ∷ 0 ∷ 3 ∷ 4 ∷ 1 ∷ 3 ∷ 5 ∷ 6 ∷ 7 ∷ 8 ∷ 2 ∷ 5 ∷ 9 ∷ 4 ∷ 6 ∷ 10 ∷ 7 ∷ 10 ∷ 11 ∷ 8 ∷ 9 ∷ 11 ∷ [])

abbrev fan_tops : List ℕ
fan_tops = 0 ∷ 0 ∷ 0 ∷ 0 ∷ 0 ∷ 0 ∷ 0 ∷ 0 ∷ 0 ∷ 0 ∷ 0 ∷ 0 ∷ []

abbrev fan_states : List ℕ
fan_states = 0 ∷ 0 ∷ 0 ∷ 0 ∷ 0 ∷ 0 ∷ 0 ∷ 1 ∷ 0 ∷ 0 ∷ 0 ∷ 0 ∷ []

abbrev fan_graph : Graph
fan_graph = graph_of fan fan_tops

fan_fine : checked fan fan_tops fan_states (room 24 4 4 4) ≡ no_fault
unfolding checked links_checked each_checked nodes_checked lowest count
fan_fine = refl

-- left, down, then right and down, right and up, up
abbrev fan_ring : List ℕ
fan_ring = 1 ∷ 3 ∷ 6 ∷ 8 ∷ 5 ∷ []

fan_ring_lem : is_ring fan_graph fan_states 2 fan_ring ≡ true
fan_ring_lem = refl

-- states in which links 3 and 6, and all but 8, were walked
abbrev walked36 : List ℕ
walked36 = 0 ∷ 0 ∷ 0 ∷ 3 ∷ 0 ∷ 0 ∷ 3 ∷ 1 ∷ 0 ∷ 0 ∷ 0 ∷ 0 ∷ []

abbrev only8 : List ℕ
only8 = 0 ∷ 2 ∷ 0 ∷ 3 ∷ 0 ∷ 2 ∷ 3 ∷ 1 ∷ 0 ∷ 0 ∷ 0 ∷ 0 ∷ []

fan_next : (next_link fan_graph false walked36 2 6 ≡ Some 8) × (next_link fan_graph true walked36 2 6 ≡ Some 1)
    × (next_link fan_graph false only8 2 5 ≡ Some 8) × (next_link fan_graph true only8 2 5 ≡ Some 8)
unfolding next_link
fan_next = (refl, refl, refl, refl)

fan_by_ring : (first_unvisited walked36 (round_from false 6 fan_ring) ≡ Some 8)
    × (first_unvisited walked36 (round_from true 6 fan_ring) ≡ Some 1)
    × (first_unvisited only8 (round_from false 5 fan_ring) ≡ Some 8)
    × (first_unvisited only8 (round_from true 5 fan_ring) ≡ Some 8)
fan_by_ring = (refl, refl, refl, refl)

-- the scan stands at link 5, which runs straight up and so is the last of the ring; then, with 5 walked, at link 6
abbrev scanned5 : List ℕ
scanned5 = 2 ∷ 2 ∷ 2 ∷ 2 ∷ 2 ∷ 0 ∷ 0 ∷ 1 ∷ 0 ∷ 0 ∷ 0 ∷ 0 ∷ []

abbrev scanned6 : List ℕ
scanned6 = 2 ∷ 2 ∷ 2 ∷ 2 ∷ 2 ∷ 3 ∷ 0 ∷ 1 ∷ 0 ∷ 0 ∷ 0 ∷ 0 ∷ []

fan_first : (first_link fan_graph scanned5 5 ≡ Some 5) × (first_link fan_graph scanned6 6 ≡ Some 8)
    × (last_unvisited scanned5 fan_ring ≡ Some 5) × (last_unvisited scanned6 fan_ring ≡ Some 8)
unfolding first_link
fan_first = (refl, refl, refl, refl)

-- the ends at node 2: b's are odd, a's even
fan_ends : (end_of fan_graph 2 3 ≡ 7) × (end_of fan_graph 2 6 ≡ 12)
fan_ends = (refl, refl)
