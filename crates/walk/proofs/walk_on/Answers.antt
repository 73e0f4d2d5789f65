-- `walk::walk_on` meets its contract. The invariant: what the walk leaves from here it leaves from the loop's start
-- (`Walking`). The measure is the number of unvisited links.
use Rattle.std.specs.Prelude.{Some, None}
use mathlib.Core.Path.{◌∙◌, ap, refl}
use native.Mathlib.Omega.{arith}
use lib.IntN.{◌+ℤ◌}
use Rattle.walk.proofs.Steps.{sum_fits, sum_is}
use Rattle.walk.proofs.Walks.{walking_starts, still_summed, walking_again, walking_less, walking_nowhere}
use Rattle.walk.proofs.Walks.{walking_home, walking_away, walking_sized}
use Rattle.walk.specs.Later.{kept_later, steered_later}
use Rattle.walk.specs.Marks.{kept_then}
use Rattle.walk.proofs.walk_on.Goals as goal

pub loop-w-init : goal.loop-w-init
loop-w-init c = let s = c in walking_starts s.requires.arrived.0 s.requires.arrived.2

pub one_step-requires : goal.one_step-requires
one_step-requires c =
    let l = c in
    let s = c in
    let i = l.loop-w.invariant in record {
      steered = (steered_later s.requires.steered.0 (kept_later i.kept), rw i.kept.len s.requires.steered.1);
      arrived = (i.arrived, s.requires.arrived.1, i.on, still_summed i s.requires.arrived.3);
      state_in_bounds = omega (arith, i.count, i.room, s.requires.on_grid.1);
    }

pub returns-in-None : goal.returns-in-None
returns-in-None c =
    let t = c in
    let i = t.loop-w.invariant in record {
      rest_leaves = walking_nowhere i _ _ None refl t.loop-w-test.true c.in-None.ensures.points_after;
      counted = (tt, tt);
      kept = kept_then i.kept c.in-None.ensures.kept;
    }

pub loop-w-smaller : goal.loop-w-smaller
loop-w-smaller c =
    let l = c in
    walking_less l.loop-w.w c.in-Some.v l.loop-w.state _ (Some c.in-Some.v) refl c.in-Some.ensures.goes

pub loop-w-preserved : goal.loop-w-preserved
loop-w-preserved c =
    let t = c in let l = c in
    walking_again l.loop-w.invariant c.in-Some.v _ _ (Some c.in-Some.v) refl c.in-Some.ensures.goes t.loop-w-test.true
    c.in-Some.ensures.points_after c.in-Some.ensures.kept (omega arith)

pub wedge-requires : goal.wedge-requires
wedge-requires c = let l = c in (l.loop-w.invariant.on, c.requires.on_grid.0)

pub overflow_add-area : goal.overflow_add-area
overflow_add-area c =
    let l = c in let h = still_summed l.loop-w.invariant c.requires.arrived.3 in
    sum_fits l.loop-w.w.area c.wedge.result (omega (arith, h)) c.wedge.ensures.1

pub returns-then-w-back : goal.returns-then-w-back
returns-then-w-back c =
    let l = c in
    let s = c in
    let i = l.loop-w.invariant in
    let z = c.wedge in
    let a = l.loop-w.w.area in
    let h = still_summed i s.requires.arrived.3 in
    let sum = sum_is a z.result (omega (arith, h)) z.ensures.1 in record {
      rest_leaves = λ g d e. walking_home i c.loop-w-test.false g d e c.if-w-back.true _
          (sum ∙ ap (λ x. a +ℤ x) z.ensures.0);
      counted = ((i.grows, i.count), walking_sized i _ z.result sum z.ensures.1);
      kept = i.kept;
    }

pub returns : goal.returns
returns c =
    let i = c.loop-w.invariant in record {
      rest_leaves = λ g d e. walking_away i c.loop-w-test.false g d e c.if-w-back.false;
      counted = (tt, tt);
      kept = i.kept;
    }
