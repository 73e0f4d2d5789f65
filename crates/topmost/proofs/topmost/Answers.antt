-- `topmost::topmost` meets its contract. The invariant: from here the climb ends as it does from link k (`Climbing`).
-- The measure is what is left up to the ring's last.
use native.Mathlib.Omega.{arith}
use Rattle.topmost.proofs.Climbing.{first_end, first_read, climb_starts, to_below, to_link, to_read}
use Rattle.topmost.proofs.Climbing.{climb_less, climb_on, climb_ends}
use Rattle.topmost.proofs.topmost.Goals as goal

pub overflow_mul-at : goal.overflow_mul-at
overflow_mul-at c = let s = c in omega (arith, first_end _ _ _ s.requires.0, s.requires.0.few)

pub offset_bounds-nxt-at : goal.offset_bounds-nxt-at
offset_bounds-nxt-at c = let s = c in omega (arith, first_end _ _ _ s.requires.0, s.requires.0.few)

pub bounds-nxt-at : goal.bounds-nxt-at
bounds-nxt-at c = let s = c in first_read _ _ _ s.requires.0

pub loop-f-init : goal.loop-f-init
loop-f-init c = let s = c in climb_starts _ _ _ s.requires.0 s.requires.1

pub wide-at-requires : goal.wide-at-requires
wide-at-requires c = tt

pub unvisited_or-s-requires : goal.unvisited_or-s-requires
unvisited_or-s-requires c =
    let l = c in to_link _ _ _ c.requires.0 l.loop-f.invariant c.loop-f-test.true _ c.wide-at.ensures

pub offset_bounds-nxt-at-in-loop-f : goal.offset_bounds-nxt-at-in-loop-f
offset_bounds-nxt-at-in-loop-f c =
    let l = c in
    let b = to_below _ _ _ c.requires.0 l.loop-f.invariant c.loop-f-test.true _ c.wide-at.ensures in
    omega (arith, b, c.requires.0.few)

pub bounds-nxt-at-in-loop-f : goal.bounds-nxt-at-in-loop-f
bounds-nxt-at-in-loop-f c =
    let l = c in
    to_read _ _ _ c.requires.0 l.loop-f.invariant c.loop-f-test.true _ c.wide-at.ensures

pub loop-f-smaller : goal.loop-f-smaller
loop-f-smaller c =
    let l = c in
    climb_less _ _ _ c.requires.0 l.loop-f.invariant c.loop-f-test.true _ c.wide-at.ensures

pub loop-f-preserved : goal.loop-f-preserved
loop-f-preserved c =
    let l = c in
    climb_on _ _ _ c.requires.0 l.loop-f.invariant c.loop-f-test.true _ c.wide-at.ensures
    _ c.unvisited_or-s.ensures

pub returns : goal.returns
returns c = let l = c in record {
  topmost_says = climb_ends _ _ _ c.requires.0 l.loop-f.invariant c.loop-f-test.false;
  result_value = l.loop-f.invariant.unvisited;
}
