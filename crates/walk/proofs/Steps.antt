-- One step, as the code goes it: a mark, a point, and the area so far.
use Rattle.std.specs.Prelude.{Some, None}
use Prim.Native.Nat.{ℕ, ◌+◌, ◌*◌, ◌≤◌, ◌<◌}
use mathlib.Core.Path.{◌≡◌, refl, sym, ap, ap₂, ◌∙◌, subst}
use mathlib.Core.Bool.{Bool, true, false, not}
use mathlib.Core.List.{List}
use native.Mathlib.Omega.{arith}
use lib.ListN.{length, set, length-set}
use lib.Seq.{get_or-set_same}
use lib.IntN.{ℤ, nat_abs, ◌+ℤ◌}
use mir.Syntax.{w64}
use mir.Val.{to_z, of_z}
use mir.Val.{SFits}
use Rattle.laws.specs.Test.{pick, pick_ind}
use Rattle.laws.specs.Bounds.{fits64, same64, abs_add}
use Rattle.turn.specs.declared.Point.{Point}
use Rattle.turn.specs.Limits.{max_links}
use Rattle.turn.specs.Points.{OnGrid}
use Rattle.turn.specs.Area.{wedge, wedge_bound}
use Rattle.graph.specs.Graph.{Graph, point_at}
use Rattle.graph.specs.Fine.{FineLinks}
use Rattle.next.specs.Known.{Links}
use Rattle.rings.specs.Ends.{link_of, is_a, far, node_of_end, starts_at, end_of, far_sort, end_sort}
use Rattle.rings.specs.Field.{Steers, Reads}
use Rattle.walk.specs.declared.Walker.{Walker}
use Rattle.leave.specs.Points.{put}
use Rattle.onward.specs.Goes.{Arrived, GoesTo, near_end, far_end}
use Rattle.walk.specs.Walk.{step_from, left}
use Rattle.walk.specs.Code.{Marks, step_out, step_to, step_by}

-- ---- the area so far and one more term, as the code adds them
module _ (a w : ℤ) (ha : nat_abs a ≤ max_links * wedge_bound) (hw : nat_abs w ≤ wedge_bound) where
  sum_within : nat_abs (a +ℤ w) < 9223372036854775808
  sum_within = omega (arith, abs_add a w)

  terms : to_z w64 (of_z w64 a) +ℤ to_z w64 (of_z w64 w) ≡ a +ℤ w
  terms = ap₂ ◌+ℤ◌ (same64 a (omega arith)) (same64 w (omega arith))

  pub sum_fits : SFits w64 (to_z w64 (of_z w64 a) +ℤ to_z w64 (of_z w64 w))
  sum_fits = rw terms (fits64 (a +ℤ w) sum_within)

  pub sum_is : to_z w64 (of_z w64 (to_z w64 (of_z w64 a) +ℤ to_z w64 (of_z w64 w))) ≡ a +ℤ w
  sum_is = ap (λ z. to_z w64 (of_z w64 z)) terms ∙ same64 (a +ℤ w) sum_within

-- ---- one step
-- the point that is left on the way to end h is on the grid
pub start_on : {ax ay bx by : List ℤ} {n : ℕ} → Links ax ay bx by n → (h : ℕ) → link_of h < n
    → OnGrid (pick (is_a h) (point_at bx by (link_of h)) (point_at ax ay (link_of h)))
start_on {ax} {ay} {bx} {by} l h i =
    pick_ind (is_a h) (point_at bx by (link_of h)) (point_at ax ay (link_of h)) OnGrid (λ _. l.b_grid (link_of h) i)
    (λ _. l.a_grid (link_of h) i)

-- an end of a link that was just marked is one where a walk stands
pub mark_arrived : (st : List ℕ) (h mark : ℕ) → link_of h < length st → Marks mark → Arrived (set st (link_of h) mark) h
mark_arrived st h mark l m = (
  subst (λ n. link_of h < n) (sym (length-set st (link_of h) mark)) l,
  subst (λ x. 2 ≤ x) (sym (get_or-set_same st (link_of h) mark 0 l)) m,
)

-- from end h a step leads to end `to`: of the link that is left at h's node
module _ {g : Graph} {m : ℕ} (l : FineLinks g m) (v to : ℕ) (below : link_of to < g.n) (node : node_of_end g (far to) ≡ v) where
  starts : starts_at g v (link_of to) ≡ not (is_a to)
  starts = sym (end_sort g v (link_of to)) ∙ ap is_a (near_end l v to below node) ∙ far_sort to

  point_left : left g (step_from g v (link_of to)) ≡ pick (is_a to) (g.b (link_of to)) (g.a (link_of to))
  point_left = ap (λ t. pick t (g.a (link_of to)) (g.b (link_of to))) starts ∙ turned (is_a to)
    where
      turned : (t : Bool) → pick (not t) (g.a (link_of to)) (g.b (link_of to)) ≡ pick t (g.b (link_of to)) (g.a (link_of to))
      turned true = refl
      turned false = refl

module _ {nxt prv st : List ℕ} (pts : List ℤ) (sense : Bool) (mark : ℕ) (w : Walker) (g : Graph) (s : Steers g nxt prv st)
  where
    pub step_went : {ax ay bx by : List ℤ} → Reads g ax ay bx by → (to : ℕ) (p : Point) (sum : ℤ) (pts' : List ℤ) → link_of to < length st
        → GoesTo g sense st w.end (Some to)
        → p ≡ pick (is_a to) (point_at bx by (link_of to)) (point_at ax ay (link_of to)) → sum ≡ w.area +ℤ wedge w.last p
        → pts' ≡ put pts w.written p
        → step_out (Some (record { end = to; written = w.written + 1; last = p; area = sum })) (set st (link_of to) mark) pts'
        ≡ step_by g sense mark st pts w
    step_went reads to p sum pts' l goes q a i =
        let v : ℕ = node_of_end g w.end in
        let b : link_of to < g.n = subst (λ n. link_of to < n) (sym s.size) l in
        let e : to ≡ far (end_of g v (link_of to)) = far_end s.links v to b goes.1 in
        let f : p ≡ left g (step_from g v (link_of to)) =
        q ∙ sym (point_left s.links v to b goes.1
        ∙ ap₂ (pick (is_a to)) (reads.b_is (link_of to)) (reads.a_is (link_of to))) in
        ap₂ (λ (x : Walker) (y : List ℤ). step_out (Some x) (set st (link_of to) mark) y)
        (ap₂ (λ (x : ℕ) (y : ℤ). record { end = x; written = w.written + 1; last = p; area = y }) e a
        ∙ ap (λ (y : Point). record { end = far (end_of g v (link_of to)); written = w.written + 1; last = y; area = w.area +ℤ wedge w.last y }) f)
        (i ∙ ap (put pts w.written) f)
        ∙ ap (step_to g mark st pts w) (sym goes.0)

    pub step_nowhere : GoesTo g sense st w.end None → step_out None st pts ≡ step_by g sense mark st pts w
    step_nowhere goes = ap (step_to g mark st pts w) (sym goes)
