-- What the functions of one walk promise each other: points and marks written one by one, and what a walk leaves in the lent buffers.
use Rattle.std.specs.Prelude.{ℕ, suc, ◌+◌, ◌*◌, ◌-◌, ◌≤◌, ◌≡◌, Bool, false, List, [], ◌∷◌, map, length, set, ℤ, nat_abs, ◌+ℤ◌, eqb}
use Rattle.std.specs.Prelude.{Option, Some, None, Result, Ok, Err}
use Rattle.laws.specs.Test.{pick}
use Rattle.turn.specs.declared.Point.{Point}
use Rattle.turn.specs.Limits.{max_links}
use Rattle.turn.specs.Points.{OnGrid}
use Rattle.turn.specs.Area.{wedge, wedge_bound, area_to, area}
use Rattle.graph.specs.Graph.{Graph}
use Rattle.next.specs.Next.{is_unvisited, unvisited, next_link}
use Rattle.rings.specs.Ends.{link_of, far, node_of_end, end_of}
use Rattle.leave.specs.Points.{put}
use Rattle.onward.specs.Goes.{Arrived}
use Rattle.walk.specs.declared.Walker.{Walker}
use Rattle.walk.specs.declared.Finished.{Finished}
use Rattle.walk.specs.Walk.{Walked, stuck, done, step_from, left}
use Rattle.turn.specs.declared.Reason.{Reason}

-- ---- points

-- the points from number `at` on are l
abbrev pub paste : List ℤ → ℕ → List Point → List ℤ
paste pts at [] = pts
paste pts at (p ∷ l) = paste (put pts at p) (at + 1) l

-- ---- marks

-- 2 and 3 came from 0
abbrev pub unmark : ℕ → ℕ
unmark x = pick (eqb x 1) 1 0

-- states of which some that were 0 have been marked
pub record Kept (s s' : List ℕ) : Type 0 where
  pub len : length s' ≡ length s
  pub marks : map unmark s' ≡ map unmark s
  pub closed : (j : ℕ) → is_unvisited s j ≡ false → is_unvisited s' j ≡ false

-- a mark: 2 or 3
abbrev pub Marks : ℕ → Type 0
Marks mark = 2 ≤ mark

-- ---- one step

-- an area to which that of all unvisited links may still be added
abbrev pub Summed : List ℕ → ℤ → Type 0
Summed st sum = nat_abs sum + unvisited st * wedge_bound ≤ max_links * wedge_bound

-- one step: what it names, the states and the points that it leaves
pub record StepOut : Type 0 where
  pub result : Option Walker
  pub state : List ℕ
  pub points : List ℤ

abbrev pub step_out : Option Walker → List ℕ → List ℤ → StepOut
step_out r st pts = record { result = r; state = st; points = pts }

-- the walker once it has gone along link f, and what it has left there
abbrev pub went_by : Graph → Walker → ℕ → Walker
went_by g w f =
    let v : ℕ = node_of_end g w.end in
    let p : Point = left g (step_from g v f) in
    record { end = far (end_of g v f); written = w.written + 1; last = p; area = w.area +ℤ wedge w.last p }

abbrev pub step_to : Graph → ℕ → List ℕ → List ℤ → Walker → Option ℕ → StepOut
step_to g mark st pts w None = step_out None st pts
step_to g mark st pts w (Some f) =
    step_out (Some (went_by g w f)) (set st f mark) (put pts w.written (left g (step_from g (node_of_end g w.end) f)))

abbrev pub step_by : Graph → Bool → ℕ → List ℕ → List ℤ → Walker → StepOut
step_by g sense mark st pts w = step_to g mark st pts w (next_link g sense st (node_of_end g w.end) (link_of w.end))

-- where a step goes to: an end of a link that is now marked, one point more, one unvisited link less, and an area that fits
abbrev pub Goes : Walker → List ℕ → List ℕ → Option Walker → Type 0
Goes w st st' None = Unit
Goes w st st' (Some v) =
    (Arrived st' v.end) × (v.written ≡ w.written + 1) × (unvisited st ≡ suc (unvisited st')) × (OnGrid v.last)
    × (nat_abs v.area ≤ nat_abs w.area + wedge_bound)

-- ---- one walk

-- a walk that is done
abbrev pub finished : ℕ → ℤ → Finished
finished to sum = record { to = to; area = sum }

-- what is left of a walk that began at a point: where it is refused only its reason counts
abbrev pub RestLeaves : Graph → Point → List ℤ → Walker → Walked → Result Finished Reason → List ℕ → List ℤ → Type 0
RestLeaves g begin pts w (stuck reason) r st' pts' = r ≡ Err reason
RestLeaves g begin pts w (done l st) r st' pts' =
    (r ≡ Ok (finished (w.written + length l) (w.area +ℤ area_to begin (w.last ∷ map (left g) l)))) × (st' ≡ st)
    × (pts' ≡ paste pts w.written (map (left g) l))

-- what a walk leaves whose points stand from number `at` on
abbrev pub WalkLeaves : Graph → List ℤ → ℕ → Walked → Result Finished Reason → List ℕ → List ℤ → Type 0
WalkLeaves g pts at (stuck reason) r st' pts' = r ≡ Err reason
WalkLeaves g pts at (done l st) r st' pts' =
    (r ≡ Ok (finished (at + length l) (area (map (left g) l)))) × (st' ≡ st) × (pts' ≡ paste pts at (map (left g) l))

-- each point written is a link marked, and some are written
abbrev pub Counted : ℕ → ℕ → List ℕ → List ℕ → Result Finished Reason → Type 0
Counted least at st st' (Err reason) = Unit
Counted least at st st' (Ok f) = (least ≤ f.to) × (f.to + unvisited st' ≡ at + unvisited st)

-- the area is that of so many points; of a walk under way, with those before
abbrev pub Sized : ℕ → Result Finished Reason → Type 0
Sized at (Err reason) = Unit
Sized at (Ok f) = nat_abs f.area ≤ (f.to - at) * wedge_bound

abbrev pub SizedFrom : Walker → Result Finished Reason → Type 0
SizedFrom w (Err reason) = Unit
SizedFrom w (Ok f) = nat_abs f.area + w.written * wedge_bound ≤ nat_abs w.area + (f.to + 1) * wedge_bound
