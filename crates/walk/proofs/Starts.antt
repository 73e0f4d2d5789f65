-- A whole walk, as the code starts it: the first link's two ends, its mark, its point and its last link.
use Rattle.std.specs.Prelude.{Some, None, Result, Ok, Err}
use Prim.Native.Nat.{ℕ, suc, ◌+◌, ◌≤◌, ◌<◌}
use mathlib.Core.Path.{◌≡◌, sym, ap, ap₂, ◌∙◌, subst}
use mathlib.Core.Bool.{Bool, true, false, not}
use mathlib.Core.List.{List, ◌∷◌, map}
use native.Mathlib.Omega.{arith}
use lib.ListN.{length, set}
use lib.IntN.{ℤ, pos, +ℤ_idl}
use Rattle.laws.specs.Test.{pick, pick_true, pick_false}
use Rattle.turn.specs.declared.Point.{Point}
use Rattle.turn.specs.Limits.{max_links}
use Rattle.turn.specs.Area.{area_to}
use Rattle.graph.specs.Graph.{Graph, point_at}
use Rattle.next.specs.Next.{unvisited, next_link}
use Rattle.rings.specs.Ends.{link_of, is_a, far, node_of_end}
use Rattle.rings.specs.Ends.{a_end, b_end, a_is_a, b_is_b, a_link, b_link, a_node_lem, b_node_lem}
use Rattle.rings.specs.Field.{Reads}
use Rattle.walk.specs.declared.Walker.{Walker}
use Rattle.leave.specs.Points.{put}
use Rattle.onward.specs.Goes.{Arrived, GoesTo}
use Rattle.walk.specs.Walk.{Step, Walked, stuck, done, cons_step, walk_on, walk_from, left}
use Rattle.walk.specs.Code.{Marks, Summed}
use Rattle.walk.specs.Code.{finished, RestLeaves, WalkLeaves, Counted, Sized, SizedFrom}
use Rattle.walk.specs.States.{unvisited_some}
use Rattle.walk.proofs.Steps.{mark_arrived}
use Rattle.walk.proofs.Walks.{rest_of}
use Rattle.turn.specs.declared.Reason.TheVariants.{NoNextLink}
use Rattle.turn.specs.declared.Reason.{Reason}
use Rattle.walk.specs.declared.Finished.{Finished}

-- ---- a whole walk, from its first link
-- the first link's two ends: where the walk begins, and where it arrives
end_number_link : (s : ℕ) (t : Bool) → link_of (pick t (a_end s) (b_end s)) ≡ s
end_number_link s true = a_link s
end_number_link s false = b_link s

pub end_number_at : (s : ℕ) (t : Bool) (h : ℕ) → h ≡ pick t (a_end s) (b_end s) → link_of h ≡ s
end_number_at s t h e = ap link_of e ∙ end_number_link s t

module _ (g : Graph) (s : ℕ) where
  home_node : (forward : Bool) → node_of_end g (pick forward (a_end s) (b_end s)) ≡ pick forward (g.a_node s) (g.b_node s)
  home_node true = a_node_lem g s
  home_node false = b_node_lem g s

  ahead_node : (forward : Bool) → node_of_end g (pick (not forward) (a_end s) (b_end s)) ≡ pick forward (g.b_node s) (g.a_node s)
  ahead_node true = b_node_lem g s
  ahead_node false = a_node_lem g s

-- the walk stands there once the link is marked
pub end_arrived : (st : List ℕ) (s mark : ℕ) (t : Bool) (h : ℕ) → h ≡ pick t (a_end s) (b_end s) → s < length st → Marks mark → Arrived (set st s mark) h
end_arrived st s mark t h e l m =
    let k : link_of h ≡ s = end_number_at s t h e in
    subst (λ k. Arrived (set st k mark) h) k (mark_arrived st h mark (subst (λ k. k < length st) (sym k) l) m)

-- no area yet
pub summed_none : (st : List ℕ) → length st ≤ max_links → Summed st (pos 0)
summed_none st h = omega (arith, unvisited_some st)

-- the point at which it begins
pub begin_is : {g : Graph} {ax ay bx by : List ℤ} → Reads g ax ay bx by → (s : ℕ) (forward : Bool) (h : ℕ)
    → h ≡ pick (not forward) (a_end s) (b_end s)
    → pick (is_a h) (point_at bx by (link_of h)) (point_at ax ay (link_of h)) ≡ pick forward (g.a s) (g.b s)
begin_is {ax = ax} {ay} {bx} {by} d s true h e =
    ap (λ x. pick (is_a x) (point_at bx by (link_of x)) (point_at ax ay (link_of x))) e
    ∙ pick_false (point_at bx by (link_of (b_end s))) (point_at ax ay (link_of (b_end s))) (b_is_b s)
    ∙ ap (point_at ax ay) (b_link s) ∙ sym (d.a_is s)
begin_is {ax = ax} {ay} {bx} {by} d s false h e =
    ap (λ x. pick (is_a x) (point_at bx by (link_of x)) (point_at ax ay (link_of x))) e
    ∙ pick_true (point_at bx by (link_of (a_end s))) (point_at ax ay (link_of (a_end s))) (a_is_a s)
    ∙ ap (point_at bx by) (a_link s) ∙ sym (d.b_is s)

-- the walker at its start
abbrev pub start_at : ℕ → ℕ → Point → Walker
start_at end at p = record { end = end; written = at + 1; last = p; area = pos 0 }

whole_cons : (g : Graph) (pts : List ℤ) (at : ℕ) (r : Result Finished Reason) (st' : List ℕ) (pts' : List ℤ) (s : Step) (end : ℕ) (o : Walked)
    → RestLeaves g (left g s) (put pts at (left g s)) (start_at end at (left g s)) o r st' pts'
    → WalkLeaves g pts at (cons_step s o) r st' pts'
whole_cons g pts at r st' pts' s end (stuck reason) h = h
whole_cons g pts at r st' pts' s end (done l st) h = (
  h.0 ∙ ap₂ (λ (n : ℕ) (z : ℤ). Ok (finished n z)) (longer at (length l)) (+ℤ_idl (area_to (left g s) (left g s ∷ map (left g) l))),
  h.1,
  h.2,
)
  where
    longer : (m n : ℕ) → m + 1 + n ≡ m + suc n
    longer m n = omega arith

module _ (g : Graph) (forward sense : Bool) (mark : ℕ) (st : List ℕ) (s : ℕ) (pts : List ℤ) (at home : ℕ) (r : Result Finished Reason)
    (st' : List ℕ) (pts' : List ℤ) (h : home ≡ pick forward (a_end s) (b_end s)) where
  node_is : node_of_end g home ≡ pick forward (g.a_node s) (g.b_node s)
  node_is = ap (node_of_end g) h ∙ home_node g s forward

  next_is : next_link g (not sense) (set st s mark) (pick forward (g.a_node s) (g.b_node s)) s
      ≡ next_link g (not sense) (set st s mark) (node_of_end g home) (link_of home)
  next_is = ap₂ (next_link g (not sense) (set st s mark)) (sym node_is) (sym (end_number_at s forward home h))

  pub starts_nowhere : GoesTo g (not sense) (set st s mark) home None → r ≡ Err NoNextLink
      → WalkLeaves g pts at (walk_from g forward sense mark st s) r st' pts'
  unfolding walk_from
  starts_nowhere e q = rw (next_is ∙ e) q

  pub starts_on : (ahead back : ℕ) (p : Point) (q : List ℤ) → GoesTo g (not sense) (set st s mark) home (Some back)
      → ahead ≡ pick (not forward) (a_end s) (b_end s) → p ≡ pick forward (g.a s) (g.b s) → q ≡ put pts at p
      → RestLeaves g p q (start_at ahead at p)
      (rest_of g sense (node_of_end g (far back)) (link_of back) mark (set st s mark) (start_at ahead at p)) r st' pts'
      → WalkLeaves g pts at (walk_from g forward sense mark st s) r st' pts'
  unfolding walk_from
  starts_on ahead back p q e a b i w =
      let step : Step = record { link = s; forward = forward } in
      let go : ℕ → ℕ → ℕ → Walked = λ x y z. walk_on (suc (unvisited (set st s mark))) g sense x (link_of back) mark y z (set st s mark) in
      let same : go (node_of_end g (far back)) (node_of_end g ahead) (link_of ahead)
      ≡ go (pick forward (g.a_node s) (g.b_node s)) (pick forward (g.b_node s) (g.a_node s)) s =
      ap (λ x. go x (node_of_end g ahead) (link_of ahead)) (e.1 ∙ node_is)
      ∙ ap₂ (go (pick forward (g.a_node s) (g.b_node s))) (ap (node_of_end g) a ∙ ahead_node g s forward)
      (end_number_at s (not forward) ahead a) in
      rw (next_is ∙ e.0)
      (whole_cons g pts at r st' pts' step ahead (go (pick forward (g.a_node s) (g.b_node s)) (pick forward (g.b_node s) (g.a_node s)) s)
      (subst (λ o. RestLeaves g (left g step) (put pts at (left g step)) (start_at ahead at (left g step)) o r st' pts') same
      (subst (λ x. RestLeaves g x (put pts at x) (start_at ahead at x) (go (node_of_end g (far back)) (node_of_end g ahead) (link_of ahead)) r st' pts') b
      (subst (λ l. RestLeaves g p l (start_at ahead at p) (go (node_of_end g (far back)) (node_of_end g ahead) (link_of ahead)) r st' pts') i w))))

pub counted_on : (at : ℕ) (st st' st'' : List ℕ) (r : Result Finished Reason) → unvisited st ≡ suc (unvisited st') → Counted (at + 1) (at + 1) st' st'' r
    → Counted (at + 1) at st st'' r
counted_on at st st' st'' (Err reason) u h = tt
counted_on at st st' st'' (Ok f) u h = (h.0, omega (arith, h.1))

pub sized_on : (end at : ℕ) (p : Point) (r : Result Finished Reason) → SizedFrom (start_at end at p) r → Sized at r
sized_on end at p (Err reason) h = tt
sized_on end at p (Ok f) h = omega (arith, h)
