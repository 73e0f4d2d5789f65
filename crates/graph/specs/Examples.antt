-- The definitions compute: document 01's E1 and its square E2, and E2 with one thing damaged at a time.
use Rattle.std.specs.Prelude.{ℕ, ◌≡◌, refl, List, [], ◌∷◌, ℤ, pos, negsuc}
use Rattle.laws.specs.Lowest.{lowest}
use Rattle.graph.specs.Graph.{Lent, lent}
use Rattle.laws.specs.Count.{count}
use Rattle.graph.specs.Checks.{Room, room, checked, links_checked, each_checked, nodes_checked}
use Rattle.turn.specs.Refusals.{Checked, refused, no_fault}
use Rattle.turn.specs.declared.Reason.TheVariants.{WrongLengths, WrongLink, LinksOutOfOrder, WrongNodes, EndsApart, EndsAlike}

abbrev axs : List ℤ
axs = pos 0 ∷ pos 0 ∷ pos 0 ∷ pos 4 ∷ []

abbrev ays : List ℤ
ays = pos 0 ∷ pos 0 ∷ pos 4 ∷ pos 0 ∷ []

abbrev bxs : List ℤ
bxs = pos 4 ∷ pos 0 ∷ pos 4 ∷ pos 4 ∷ []

abbrev bys : List ℤ
bys = pos 0 ∷ pos 4 ∷ pos 4 ∷ pos 4 ∷ []

abbrev a_ids : List ℕ
a_ids = 0 ∷ 0 ∷ 1 ∷ 2 ∷ []

abbrev b_ids : List ℕ
b_ids = 2 ∷ 1 ∷ 3 ∷ 3 ∷ []

abbrev starts : List ℕ
starts = 0 ∷ 2 ∷ 4 ∷ 6 ∷ 8 ∷ []

abbrev lists : List ℕ
lists = 0 ∷ 1 ∷ 1 ∷ 2 ∷ 0 ∷ 3 ∷ 2 ∷ 3 ∷ []

abbrev pub square : Lent
square = lent axs ays bxs bys a_ids b_ids starts lists

abbrev pub tops : List ℕ
tops = 1 ∷ 0 ∷ 0 ∷ 1 ∷ []

abbrev pub unvisited : List ℕ
unvisited = 0 ∷ 0 ∷ 0 ∷ 0 ∷ []

-- exactly enough for 4 links
abbrev pub enough : Room
enough = room 8 1 1 1

e1 : checked (lent [] [] [] [] [] [] (0 ∷ []) []) [] [] (room 0 0 0 0) ≡ no_fault
unfolding checked links_checked each_checked nodes_checked lowest count
e1 = refl

e2 : checked square tops unvisited enough ≡ no_fault
unfolding checked links_checked each_checked nodes_checked lowest count
e2 = refl

-- the square with other points, with other nodes, and with other tops, states and room
abbrev points : List ℤ → List ℤ → List ℤ → List ℤ → Checked
points ax ay bx by = checked (lent ax ay bx by a_ids b_ids starts lists) tops unvisited enough

abbrev nodes : List ℕ → List ℕ → List ℕ → List ℕ → Checked
nodes a_id b_id start list = checked (lent axs ays bxs bys a_id b_id start list) tops unvisited enough

abbrev band : List ℕ → List ℕ → Room → Checked
band top state r = checked square top state r

-- 2: a point list too short; no start; tops too few; states too many; room one short of 4 points or of 1 contour; a table of unlike lists
two : (points (pos 0 ∷ []) ays bxs bys
    ∷ nodes a_ids b_ids [] lists
    ∷ band (1 ∷ []) unvisited enough
    ∷ band tops (0 ∷ 0 ∷ 0 ∷ 0 ∷ 0 ∷ []) enough
    ∷ band tops unvisited (room 7 1 1 1)
    ∷ band tops unvisited (room 8 0 0 0)
    ∷ band tops unvisited (room 8 2 1 2)
    ∷ [])
    ≡ (refused WrongLengths 0 ∷ refused WrongLengths 0 ∷ refused WrongLengths 0 ∷ refused WrongLengths 0 ∷ refused WrongLengths 0
    ∷ refused WrongLengths 0 ∷ refused WrongLengths 0 ∷ [])
unfolding checked links_checked
two = refl

-- 3: a coordinate one past each bound, a at b, an id not below 4, equal ids, a top of 2, a state of 2 at a lower link than a wrong top
three : (points axs ays bxs (pos 0 ∷ pos 4 ∷ pos 524289 ∷ pos 4 ∷ [])
    ∷ points (pos 0 ∷ negsuc 524288 ∷ pos 0 ∷ pos 4 ∷ []) ays bxs bys
    ∷ points axs ays (pos 4 ∷ pos 0 ∷ pos 0 ∷ pos 4 ∷ []) bys
    ∷ nodes a_ids (2 ∷ 4 ∷ 3 ∷ 3 ∷ []) starts lists
    ∷ nodes a_ids (2 ∷ 1 ∷ 1 ∷ 3 ∷ []) starts lists
    ∷ band (1 ∷ 0 ∷ 0 ∷ 2 ∷ []) unvisited enough
    ∷ band (1 ∷ 0 ∷ 0 ∷ 2 ∷ []) (0 ∷ 0 ∷ 2 ∷ 0 ∷ []) enough
    ∷ [])
    ≡ (refused WrongLink 2 ∷ refused WrongLink 1 ∷ refused WrongLink 2 ∷ refused WrongLink 1 ∷ refused WrongLink 2
    ∷ refused WrongLink 3 ∷ refused WrongLink 2 ∷ [])
unfolding checked links_checked each_checked lowest
three = refl

-- 4: link 1 from (-1, 0) comes after link 0 from (0, 0); a link between both bounds passes check 3, and is out of order too
four : (points (pos 0 ∷ negsuc 0 ∷ pos 0 ∷ pos 4 ∷ []) ays bxs bys
    ∷ points (pos 0 ∷ pos 0 ∷ negsuc 524287 ∷ pos 4 ∷ []) (pos 0 ∷ pos 0 ∷ negsuc 524287 ∷ pos 0 ∷ []) (pos 4 ∷ pos 0 ∷ pos 524288 ∷ pos 4 ∷ [])
    (pos 0 ∷ pos 4 ∷ pos 524288 ∷ pos 4 ∷ [])
    ∷ [])
    ≡ (refused LinksOutOfOrder 1 ∷ refused LinksOutOfOrder 2 ∷ [])
unfolding checked links_checked each_checked lowest
four = refl

-- 5: starts from 1, falling, short of the list's end; a node of one entry; a link twice at a node; a link at a node not its own; an entry that is no link
five : (nodes a_ids b_ids (1 ∷ 2 ∷ 4 ∷ 6 ∷ 8 ∷ []) lists
    ∷ nodes a_ids b_ids (0 ∷ 4 ∷ 2 ∷ 6 ∷ 8 ∷ []) lists
    ∷ nodes a_ids b_ids (0 ∷ 2 ∷ 4 ∷ 6 ∷ 8 ∷ []) (0 ∷ 1 ∷ 1 ∷ 2 ∷ 0 ∷ 3 ∷ 2 ∷ 3 ∷ 3 ∷ [])
    ∷ nodes a_ids b_ids (0 ∷ 3 ∷ 4 ∷ 6 ∷ 8 ∷ []) lists
    ∷ nodes a_ids b_ids starts (0 ∷ 0 ∷ 1 ∷ 2 ∷ 0 ∷ 3 ∷ 2 ∷ 3 ∷ [])
    ∷ nodes a_ids b_ids starts (0 ∷ 1 ∷ 1 ∷ 2 ∷ 0 ∷ 3 ∷ 2 ∷ 1 ∷ [])
    ∷ nodes a_ids b_ids starts (0 ∷ 1 ∷ 1 ∷ 2 ∷ 0 ∷ 3 ∷ 2 ∷ 4 ∷ [])
    ∷ [])
    ≡ (refused WrongNodes 0 ∷ refused WrongNodes 0 ∷ refused WrongNodes 0 ∷ refused WrongNodes 0 ∷ refused WrongNodes 0
    ∷ refused WrongNodes 0 ∷ refused WrongNodes 0 ∷ [])
unfolding checked links_checked each_checked nodes_checked lowest count
five = refl

-- 6: link 3 ends at (4, 5), where link 2 ends at (4, 4), at node 3; and link 1 ends at (0, 3), where link 2 starts at (0, 4), at node 1, with it
six : (points axs ays bxs (pos 0 ∷ pos 4 ∷ pos 4 ∷ pos 5 ∷ []) ∷ points axs ays bxs (pos 0 ∷ pos 3 ∷ pos 4 ∷ pos 5 ∷ []) ∷ [])
    ≡ (refused EndsApart 3 ∷ refused EndsApart 1 ∷ [])
unfolding checked links_checked each_checked nodes_checked lowest count
six = refl

-- 7: two links between (0, 0) and (4, 0): the same direction at both nodes, unless one is skipped
abbrev double : List ℕ → Checked
double state =
    checked (lent (pos 0 ∷ pos 0 ∷ []) (pos 0 ∷ pos 0 ∷ []) (pos 4 ∷ pos 4 ∷ []) (pos 0 ∷ pos 0 ∷ []) (0 ∷ 0 ∷ []) (1 ∷ 1 ∷ []) (0 ∷ 2 ∷ 4 ∷ [])
    (0 ∷ 1 ∷ 1 ∷ 0 ∷ []))
    (0 ∷ 0 ∷ []) state (room 4 0 0 0)

seven : (double (0 ∷ 0 ∷ []) ∷ double (0 ∷ 1 ∷ []) ∷ double (1 ∷ 0 ∷ []) ∷ []) ≡ (refused EndsAlike 0 ∷ no_fault ∷ no_fault ∷ [])
unfolding checked links_checked each_checked nodes_checked lowest count
seven = refl
