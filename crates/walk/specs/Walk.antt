-- One walk (rules 3 to 5): which links it goes along, where it ends, and what is read off it.
use Rattle.std.specs.Prelude.{ℕ, zero, suc, Bool, not, List, [], ◌∷◌, map, set, eqb, Option, Some, None}
use Rattle.laws.specs.Test.{pick}
use Rattle.turn.specs.declared.Point.{Point}
use Rattle.graph.specs.Graph.{Graph}
use Rattle.next.specs.Next.{unvisited, other, next_link}
use Rattle.turn.specs.declared.Reason.{Reason}
use Rattle.turn.specs.declared.Reason.TheVariants.{NoNextLink, WrongLastLink}

-- a link walked: forward, from its a to its b, or backward
pub record Step : Type 0 where
  pub link : ℕ
  pub forward : Bool

-- one walk: whether it is a hole, and the links that it walked with the way it went, the first link first
pub record Walk : Type 0 where
  pub hole : Bool
  pub steps : List Step

-- ---- one walk

-- what becomes of a walk: refused with a reason (8 or 9), or its steps and the states that it leaves
pub data Walked : Type 0 where
  stuck : Reason → Walked
  done : List Step → List ℕ → Walked

abbrev pub cons_step : Step → Walked → Walked
cons_step s (stuck reason) = stuck reason
cons_step s (done l st) = done (s ∷ l) st

-- 8: "the rule names a first, last or next link that is not unvisited, or none exists"
abbrev pub on_next : (ℕ → Walked) → Option ℕ → Walked
on_next go None = stuck NoNextLink
on_next go (Some k) = go k

-- link k, left from node v
abbrev pub step_from : Graph → ℕ → ℕ → Step
step_from g v k = record { link = k; forward = eqb (g.a_node k) v }

-- The walk goes on from node v, link e just walked and marked, to its last link: "The walk stops on marking it."
-- 9: "the last link is reached but the walk is not back at its starting node". The fuel is above the number of unvisited links.
unfoldable pub walk_on : ℕ → Graph → Bool → ℕ → ℕ → ℕ → ℕ → ℕ → List ℕ → Walked
walk_on zero g sense home last mark v e st = stuck NoNextLink
walk_on (suc fuel) g sense home last mark v e st =
    pick (eqb e last) (pick (eqb v home) (done [] st) (stuck WrongLastLink))
    (on_next (λ f. cons_step (step_from g v f) (walk_on fuel g sense home last mark (other g v f) f (set st f mark))) (next_link g sense st v e))

-- The walk that starts with link s, goes forward along it or backward, and turns in a sense; each link walked is marked.
-- Rule 4: "The last link is the next link at the beginning's node under the opposite sense, fixed once the first link is marked."
unfoldable pub walk_from : Graph → Bool → Bool → ℕ → List ℕ → ℕ → Walked
walk_from g forward sense mark st s =
    let marked : List ℕ = set st s mark in
    let home : ℕ = pick forward (g.a_node s) (g.b_node s) in
    let ahead : ℕ = pick forward (g.b_node s) (g.a_node s) in
    on_next
    (λ last. cons_step (record { link = s; forward = forward }) (walk_on (suc (unvisited marked)) g sense home last mark ahead s marked))
    (next_link g (not sense) marked home s)

-- ---- what is read off a walk

-- rule 2: "The first link's top decides: 1 hole (state 2), 0 hull (state 3)."
abbrev pub mark_of : Bool → ℕ
mark_of hole = pick hole 2 3

-- the point of the node that a step leaves
abbrev pub left : Graph → Step → Point
left g s = pick s.forward (g.a s.link) (g.b s.link)

-- rule 5: "The points are the beginning, then the point of each node left, so one for each link."
abbrev pub points : Graph → Walk → List Point
points g w = map (left g) w.steps

-- the visit states after a walk that leaves a mark
abbrev pub marked : ℕ → List Step → List ℕ → List ℕ
marked mark [] st = st
marked mark (s ∷ l) st = marked mark l (set st s.link mark)
