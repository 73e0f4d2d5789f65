-- `walk::one_step` meets its contract: what `next_end` names is unvisited, is marked, and its point is written; else nothing changes.
use Prim.Native.Nat.{ℕ, suc, ◌<◌}
use mathlib.Core.Path.{◌≡◌, refl, ap, ◌∙◌}
use mathlib.Core.List.{List}
use native.Mathlib.Omega.{arith}
use lib.ListN.{length, get_or, set}
use lib.IntN.{◌+ℤ◌}
use Rattle.laws.specs.Bounds.{abs_add}
use Rattle.turn.specs.Points.{OnGrid}
use Rattle.next.specs.Next.{unvisited}
use Rattle.rings.specs.Ends.{link_of}
use Rattle.walk.proofs.Steps.{sum_fits, sum_is, start_on, mark_arrived, step_went, step_nowhere}
use Rattle.walk.specs.Marks.{kept_mark, kept_none, fewer}
use Rattle.walk.proofs.one_step.Goals as goal

pub next_end-requires : goal.next_end-requires
next_end-requires c = let s = c in (s.requires.steered.0, s.requires.arrived.0)

pub start_point-p-requires : goal.start_point-p-requires
start_point-p-requires c =
    let st : List ℕ = c.args.state.now in
    let end : ℕ = c.in_ok-to.to in
    let ok : (link_of end < length st) × (get_or st (link_of end) 1 ≡ 0) = c.in_ok-to.ensures.ends_unvisited in
    let a = c in let l = c.requires.steered.1 in let h = ok.0 in
    (rw l.ax_long h, rw l.ay_long h, rw l.bx_long h, rw l.by_long h)

pub bounds-state-to : goal.bounds-state-to
bounds-state-to c =
    let st : List ℕ = c.args.state.now in
    let end : ℕ = c.in_ok-to.to in
    let ok : (link_of end < length st) × (get_or st (link_of end) 1 ≡ 0) = c.in_ok-to.ensures.ends_unvisited in
    ok.0

pub put_point-requires : goal.put_point-requires
put_point-requires c =
    let st : List ℕ = c.args.state.now in
    let end : ℕ = c.in_ok-to.to in
    let ok : (link_of end < length st) × (get_or st (link_of end) 1 ≡ 0) = c.in_ok-to.ensures.ends_unvisited in
    let less : unvisited st ≡ suc (unvisited (set st (link_of end) c.args.course.mark)) = fewer st (link_of end) c.args.course.mark c.requires.arrived.1 ok.1 in
    let a = c in let s = c in omega (arith, s.requires.state_in_bounds, less)

pub wedge-requires : goal.wedge-requires
wedge-requires c =
    let end : ℕ = c.in_ok-to.to in
    let st : List ℕ = c.args.state.now in
    let ok : (link_of end < length st) × (get_or st (link_of end) 1 ≡ 0) = c.in_ok-to.ensures.ends_unvisited in
    let on : OnGrid c.start_point-p.result = let a = c in let s = c in rw c.start_point-p.ensures (start_on s.requires.steered.1 end ok.0) in
    (c.requires.arrived.2, on)

pub overflow_add-area : goal.overflow_add-area
overflow_add-area c =
    let s = c in let z = c.wedge in
    sum_fits s.args.w.area z.result (omega (arith, s.requires.arrived.3)) z.ensures.1

pub overflow_add-result : goal.overflow_add-result
overflow_add-result c =
    let st : List ℕ = c.args.state.now in
    let end : ℕ = c.in_ok-to.to in
    let ok : (link_of end < length st) × (get_or st (link_of end) 1 ≡ 0) = c.in_ok-to.ensures.ends_unvisited in
    let less : unvisited st ≡ suc (unvisited (set st (link_of end) c.args.course.mark)) = fewer st (link_of end) c.args.course.mark c.requires.arrived.1 ok.1 in
    let a = c in let s = c in
    omega (arith, s.requires.state_in_bounds, less)

pub returns-in_err-to : goal.returns-in_err-to
returns-in_err-to c =
    let st : List ℕ = c.args.state.now in
    let s = c in
    rw c.from_residual.ensures (record {
      points_after = λ g d e. step_nowhere s.args.points.now s.args.course.sense s.args.course.mark s.args.w g d
          (c.in_err-to.ensures.next_end_says g d);
      goes = tt;
      kept = kept_none st;
    })

pub returns : goal.returns
returns c =
    let st : List ℕ = c.args.state.now in
    let end : ℕ = c.in_ok-to.to in
    let ok : (link_of end < length st) × (get_or st (link_of end) 1 ≡ 0) = c.in_ok-to.ensures.ends_unvisited in
    let less : unvisited st ≡ suc (unvisited (set st (link_of end) c.args.course.mark)) = fewer st (link_of end) c.args.course.mark c.requires.arrived.1 ok.1 in
    let on : OnGrid c.start_point-p.result = let a = c in let s = c in rw c.start_point-p.ensures (start_on s.requires.steered.1 end ok.0) in
    let a = c in
    let s = c in
    let w = s.args.w in
    let z = c.wedge in
    let sum = sum_is w.area z.result (omega (arith, s.requires.arrived.3)) z.ensures.1 in record {
      points_after = λ g d e. step_went s.args.points.now s.args.course.sense s.args.course.mark w g d e end _ _ _ ok.0
          (a.in_ok-to.ensures.next_end_says g d)
          c.start_point-p.ensures (sum ∙ ap (λ x. w.area +ℤ x) z.ensures.0)
          c.put_point.ensures;
      goes = (
        mark_arrived st end _ ok.0 s.requires.arrived.1,
        refl,
        less,
        on,
        rw sum (omega (arith, abs_add w.area z.result, z.ensures.1)),
      );
      kept = kept_mark st (link_of end) _ s.requires.arrived.1 ok.1;
    }
