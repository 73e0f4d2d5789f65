-- One walk, as the code goes it: what each step leaves of the definition's walk, and its three ends.
use Rattle.std.specs.Prelude.{Option, Some, None, Result, Ok, Err}
use Prim.Native.Nat.{ℕ, suc, ◌+◌, ◌*◌, ◌-◌, ◌%◌, ◌≤◌, ◌<◌}
use mathlib.Core.Path.{◌≡◌, refl, sym, ap, ap₂, ◌∙◌, subst}
use mathlib.Core.Bool.{Bool, true, false, true≢false}
use mathlib.Core.List.{List, ◌∷◌, map}
use native.Mathlib.Omega.{arith}
use lib.ListN.{length, set}
use lib.IntN.{ℤ, nat_abs, ◌+ℤ◌, +ℤ_assoc}
use borrow.Author.Tests.{eqb-true, eqb-false, eq-eqb, ne_eqb}
use Rattle.laws.specs.Test.{pick_true, pick_false}
use Rattle.laws.specs.Bounds.{abs_add}
use Rattle.turn.specs.declared.Point.{Point}
use Rattle.turn.specs.Points.{OnGrid}
use Rattle.turn.specs.Area.{wedge, wedge_bound, area_to}
use Rattle.graph.specs.Graph.{Graph}
use Rattle.graph.specs.Fine.{FineLinks}
use Rattle.next.specs.Next.{unvisited, other, next_link}
use Rattle.rings.specs.Ends.{link_of, is_a, far, node_of_end, end_of, far_link, end_link, far_node}
use Rattle.rings.specs.Ends.{is_a_lem, is_b, a_node_lem, b_node_lem, far_a, far_b}
use Rattle.rings.specs.Field.{Steers, Reads}
use Rattle.leave.specs.Points.{put}
use Rattle.onward.specs.Goes.{Arrived}
use Rattle.walk.specs.declared.Walker.{Walker}
use Rattle.walk.specs.Walk.{Step, Walked, stuck, done, cons_step, on_next, step_from, walk_on, left}
use Rattle.walk.specs.Code.{Kept, Summed, step_out, step_to, step_by, went_by, StepOut, Goes}
use Rattle.walk.specs.Code.{finished, RestLeaves, SizedFrom}
use Rattle.walk.specs.Marks.{kept_none, kept_then}
use Rattle.walk.specs.Later.{kept_later, steers_later}
use Rattle.turn.specs.declared.Reason.TheVariants.{NoNextLink, WrongLastLink}
use Rattle.turn.specs.declared.Reason.{Reason}
use Rattle.walk.specs.declared.Finished.{Finished}

-- ---- a walk: one step before it, and its three ends
module _ (g : Graph) (begin : Point) (pts : List ℤ) (w : Walker) (r : Result Finished Reason) (st' : List ℕ) (pts' : List ℤ) where
  -- the walker once it has gone along a link that is left at p
  abbrev onward_by : ℕ → Point → Walker
  onward_by end p = record { end = end; written = w.written + 1; last = p; area = w.area +ℤ wedge w.last p }

  leaves_cons : (s : Step) (end : ℕ) (o : Walked)
      → RestLeaves g begin (put pts w.written (left g s)) (onward_by end (left g s)) o r st' pts'
      → RestLeaves g begin pts w (cons_step s o) r st' pts'
  leaves_cons s end (stuck reason) h = h
  leaves_cons s end (done l st) h = (
    h.0 ∙ ap₂ (λ (n : ℕ) (z : ℤ). Ok (finished n z)) (longer w.written (length l))
        (+ℤ_assoc w.area (wedge w.last (left g s)) (area_to begin (left g s ∷ map (left g) l))),
    h.1,
    h.2,
  )
    where
      longer : (m n : ℕ) → m + 1 + n ≡ m + suc n
      longer m n = omega arith

-- ends of one link: the same, or one far from the other
other_end : (x y : ℕ) → link_of x ≡ link_of y → (x ≡ y → ⊥) → x ≡ far y
other_end x y e d = by (is_a y) refl
  where
    by : (t : Bool) → is_a y ≡ t → x ≡ far y
    by true t = next (eqb-true (y % 2) 0 t) ∙ sym (pick_true (y + 1) (y - 1) t)
      where
        next : y % 2 ≡ 0 → x ≡ y + 1
        next q = omega arith
    by false t = next (eqb-false (y % 2) 0 t) ∙ sym (pick_false (y + 1) (y - 1) t)
      where
        next : (y % 2 ≡ 0 → ⊥) → x ≡ y - 1
        next q = omega arith

-- a link's two ends are at two nodes
far_apart : {g : Graph} {m : ℕ} → FineLinks g m → (h : ℕ) → link_of h < g.n → node_of_end g h ≡ node_of_end g (far h) → ⊥
far_apart {g} l h b e = by (is_a h) refl
  where
    k : ℕ
    k = link_of h

    by : (t : Bool) → is_a h ≡ t → ⊥
    by true t = let q = is_a_lem h t in
        l.two_nodes k b (sym (a_node_lem g k) ∙ ap (node_of_end g) (sym q) ∙ e ∙ ap (λ x. node_of_end g (far x)) q ∙ ap (node_of_end g) (far_a k) ∙
        b_node_lem g k)
    by false t = let q = is_b h t in
        l.two_nodes k b (sym (sym (b_node_lem g k) ∙ ap (node_of_end g) (sym q) ∙ e ∙ ap (λ x. node_of_end g (far x)) q ∙ ap (node_of_end g) (far_b k) ∙
        a_node_lem g k))

-- what is left of the definition's walk
abbrev pub rest_of : Graph → Bool → ℕ → ℕ → ℕ → List ℕ → Walker → Walked
rest_of g sense home last mark s v = walk_on (suc (unvisited s)) g sense home last mark (node_of_end g v.end) (link_of v.end) s

module _ (g : Graph) (sense : Bool) (home last mark : ℕ) (begin : Point) (st : List ℕ) (pts : List ℤ) (w : Walker) where
  -- node and link where the walker stands
  abbrev node : ℕ
  node = node_of_end g w.end

  abbrev link : ℕ
  link = link_of w.end

  on_step_lem : (fuel : ℕ) → (link ≡ last → ⊥) → walk_on (suc fuel) g sense home last mark node link st
      ≡ on_next (λ f. cons_step (step_from g node f) (walk_on fuel g sense home last mark (other g node f) f (set st f mark)))
      (next_link g sense st node link)
  unfolding walk_on
  on_step_lem fuel away = rw (ne_eqb _ _ away)

  module _ (r : Result Finished Reason) (s : List ℕ) (p : List ℤ) where
    ends_home : link ≡ last → node ≡ home → r ≡ Ok (finished w.written (w.area +ℤ wedge w.last begin)) → s ≡ st → p ≡ pts
        → RestLeaves g begin pts w (rest_of g sense home last mark st w) r s p
    unfolding walk_on
    ends_home e h q i j =
        rw (eq-eqb _ _ e, eq-eqb _ _ h)
        (q ∙ ap (λ n. Ok (finished n (w.area +ℤ wedge w.last begin))) (more w.written), i, j)
      where
        more : (n : ℕ) → n ≡ n + 0
        more n = omega arith

    ends_away : link ≡ last → (node ≡ home → ⊥) → r ≡ Err WrongLastLink → RestLeaves g begin pts w (rest_of g sense home last mark st w) r s p
    unfolding walk_on
    ends_away e h q = rw (eq-eqb _ _ e, ne_eqb _ _ h) q

    module _ (away : link ≡ last → ⊥) (st' : List ℕ) (pts' : List ℤ) where
      by_nowhere : (go : ℕ → Walked) (n : Option ℕ) → step_out None st' pts' ≡ step_to g mark st pts w n → r ≡ Err NoNextLink
          → RestLeaves g begin pts w (on_next go n) r s p
      by_nowhere go None e q = q
      by_nowhere go (Some f) e q = let z : None ≡ _ = ap (λ (o : StepOut). o.result) e in absurd (true≢false (cc))

      ends_nowhere : step_out None st' pts' ≡ step_by g sense mark st pts w → r ≡ Err NoNextLink
          → RestLeaves g begin pts w (rest_of g sense home last mark st w) r s p
      ends_nowhere e q =
          rw (on_step_lem (unvisited st) away)
          (by_nowhere (λ f. cons_step (step_from g node f) (walk_on (unvisited st) g sense home last mark (other g node f) f (set st f mark)))
          (next_link g sense st node link) e q)

      by_went : (fuel : ℕ) (v : Walker) (n : Option ℕ) → step_out (Some v) st' pts' ≡ step_to g mark st pts w n
          → RestLeaves g begin pts' v (walk_on fuel g sense home last mark (node_of_end g v.end) (link_of v.end) st') r s p
          → RestLeaves g begin pts w
          (on_next (λ f. cons_step (step_from g node f) (walk_on fuel g sense home last mark (other g node f) f (set st f mark))) n) r s p
      by_went fuel v None e h = let z : Some v ≡ _ = ap (λ (o : StepOut). o.result) e in absurd (true≢false (cc))
      by_went fuel v (Some f) e h =
          let z : Some v ≡ Some (went_by g w f) = ap (λ (o : StepOut). o.result) e in
          let x : v ≡ went_by g w f = cc in
          let y : st' ≡ set st f mark = ap (λ (o : StepOut). o.state) e in
          let u : pts' ≡ put pts w.written (left g (step_from g node f)) = ap (λ (o : StepOut). o.points) e in
          leaves_cons g begin pts w r s p (step_from g node f) (far (end_of g node f))
          (walk_on fuel g sense home last mark (other g node f) f (set st f mark))
          (rw (far_node g node f, far_link (end_of g node f), end_link g node f) at (rw (x, y, u) at h))

      goes_on : (v : Walker) → step_out (Some v) st' pts' ≡ step_by g sense mark st pts w → unvisited st ≡ suc (unvisited st')
          → RestLeaves g begin pts' v (rest_of g sense home last mark st' v) r s p → RestLeaves g begin pts w (rest_of g sense home last mark st w) r s p
      goes_on v e u h = rw (on_step_lem (unvisited st) away, u) (by_went (suc (unvisited st')) v (next_link g sense st node link) e h)

-- what the loop of `walk_on` keeps: what the walk leaves from here it leaves from the loop's start
pub record Walking (ax ay bx by : List ℤ) (nxt prv : List ℕ) (sense : Bool) (mark back : ℕ) (begin : Point) (st₀ : List ℕ) (pts₀ : List ℤ)
    (w₀ : Walker) (st : List ℕ) (pts : List ℤ) (w : Walker) : Type 0 where
  pub goes : (g : Graph) → Steers g nxt prv st₀ → Reads g ax ay bx by → (r : Result Finished Reason) (s : List ℕ) (p : List ℤ)
      → RestLeaves g begin pts w (rest_of g sense (node_of_end g (far back)) (link_of back) mark st w) r s p
      → RestLeaves g begin pts₀ w₀ (rest_of g sense (node_of_end g (far back)) (link_of back) mark st₀ w₀) r s p
  pub arrived : Arrived st w.end
  pub count : w.written + unvisited st ≡ w₀.written + unvisited st₀
  pub grows : w₀.written ≤ w.written
  pub on : OnGrid w.last
  pub size : nat_abs w.area + w₀.written * wedge_bound ≤ nat_abs w₀.area + w.written * wedge_bound
  pub kept : Kept st₀ st
  pub room : length pts ≡ length pts₀

-- a step that went, by what it tells
went_to : (w v : Walker) (st st' : List ℕ) (s : Option Walker) → s ≡ Some v → Goes w st st' s → Goes w st st' (Some v)
went_to w v st st' s q ok = subst (Goes w st st') q ok

pub walking_less : (w v : Walker) (st st' : List ℕ) (s : Option Walker) → s ≡ Some v → Goes w st st' s → unvisited st' < unvisited st
walking_less w v st st' s q ok = omega (arith, (went_to w v st st' s q ok).2)

module _ {ax ay bx by : List ℤ} {nxt prv : List ℕ} {sense : Bool} {mark back : ℕ} {begin : Point} {st₀ : List ℕ} {pts₀ : List ℤ} {w₀ : Walker} where
  pub walking_starts : Arrived st₀ w₀.end → OnGrid w₀.last → Walking ax ay bx by nxt prv sense mark back begin st₀ pts₀ w₀ st₀ pts₀ w₀
  walking_starts a o = record {
    goes = λ g d e r s p h. h;
    arrived = a;
    count = refl;
    grows = omega arith;
    on = o;
    size = omega arith;
    kept = kept_none st₀;
    room = refl;
  }

  module _ {st : List ℕ} {pts : List ℤ} {w : Walker} (i : Walking ax ay bx by nxt prv sense mark back begin st₀ pts₀ w₀ st pts w) where
    -- the area so far leaves room for the rest
    pub still_summed : Summed st₀ w₀.area → Summed st w.area
    still_summed h = omega (arith, i.size, i.count, h)

    pub walking_again : (v : Walker) (st' : List ℕ) (pts' : List ℤ) (s : Option Walker) → s ≡ Some v → Goes w st st' s → (link_of w.end ≡ link_of back → ⊥)
        → ((g : Graph) → Steers g nxt prv st → Reads g ax ay bx by → step_out s st' pts' ≡ step_by g sense mark st pts w)
        → Kept st st' → length pts' ≡ length pts
        → Walking ax ay bx by nxt prv sense mark back begin st₀ pts₀ w₀ st' pts' v
    walking_again v st' pts' s q ok away e k room =
        let t = went_to w v st st' s q ok in
        record {
          goes = λ g d f r a b h. i.goes g d f r a b
              (goes_on g sense (node_of_end g (far back)) (link_of back) mark begin st pts w r a b away st' pts' v
              (ap (λ x. step_out x st' pts') (sym q) ∙ e g (steers_later d (kept_later i.kept)) f) t.2 h);
          arrived = t.0;
          count = omega (arith, t.1, t.2, i.count);
          grows = omega (arith, t.1, i.grows);
          on = t.3;
          size = omega (arith, t.1, t.4, i.size);
          kept = kept_then i.kept k;
          room = room ∙ i.room;
        }

    -- no step: the walk is refused
    pub walking_nowhere : (st' : List ℕ) (pts' : List ℤ) (s : Option Walker) → s ≡ None → (link_of w.end ≡ link_of back → ⊥)
        → ((g : Graph) → Steers g nxt prv st → Reads g ax ay bx by → step_out s st' pts' ≡ step_by g sense mark st pts w)
        → (g : Graph) → Steers g nxt prv st₀ → Reads g ax ay bx by
        → RestLeaves g begin pts₀ w₀ (rest_of g sense (node_of_end g (far back)) (link_of back) mark st₀ w₀) (Err NoNextLink) st' pts'
    walking_nowhere st' pts' s q away e g d f =
        i.goes g d f (Err NoNextLink) st' pts'
        (ends_nowhere g sense (node_of_end g (far back)) (link_of back) mark begin st pts w (Err NoNextLink) st' pts' away st' pts'
        (ap (λ x. step_out x st' pts') (sym q) ∙ e g (steers_later d (kept_later i.kept)) f) refl)

    -- on the last link: the walk is back at its start, or it came along it the other way round
    module _ (last : link_of w.end ≡ link_of back) (g : Graph) (d : Steers g nxt prv st₀) (f : Reads g ax ay bx by) where
      pub walking_home : (w.end ≡ back → ⊥) → (sum : ℤ) → sum ≡ w.area +ℤ wedge w.last begin
          → RestLeaves g begin pts₀ w₀ (rest_of g sense (node_of_end g (far back)) (link_of back) mark st₀ w₀) (Ok (finished w.written sum)) st pts
      walking_home n sum e =
          i.goes g d f (Ok (finished w.written sum)) st pts
          (ends_home g sense (node_of_end g (far back)) (link_of back) mark begin st pts w (Ok (finished w.written sum)) st pts last
          (ap (node_of_end g) (other_end w.end back last n)) (ap (λ z. Ok (finished w.written z)) e) refl refl)

      pub walking_away : w.end ≡ back
          → RestLeaves g begin pts₀ w₀ (rest_of g sense (node_of_end g (far back)) (link_of back) mark st₀ w₀) (Err WrongLastLink) st pts
      walking_away q =
          i.goes g d f (Err WrongLastLink) st pts
          (ends_away g sense (node_of_end g (far back)) (link_of back) mark begin st pts w (Err WrongLastLink) st pts last
          (λ h. far_apart d.links back below (ap (node_of_end g) (sym q) ∙ h)) refl)
        where
          below : link_of back < g.n
          below = omega (arith, i.arrived.0, i.kept.len, d.size, last)

    -- the area as it is at the end
    pub walking_sized : (sum z : ℤ) → sum ≡ w.area +ℤ z → nat_abs z ≤ wedge_bound → SizedFrom w₀ (Ok (finished w.written sum))
    walking_sized sum z e h = omega (arith, ap nat_abs e, abs_add w.area z, i.size)
