-- `topmost::next_below` meets its contract. The invariant: a step led to this end, and what was left of the ring before it
-- holds the answer (`Falling`). The measure is how many ends are left; the link looked for comes before the last of them.
use native.Mathlib.Omega.{arith}
use Rattle.next.specs.States.{read_unvisited, read_shut}
use Rattle.topmost.proofs.Falling.{held_end, held_read, fall_starts, at_below, at_link, at_read}
use Rattle.topmost.proofs.Falling.{fall_ends, fall_on, fall_less}
use Rattle.topmost.proofs.next_below.Goals as goal

pub overflow_mul-held : goal.overflow_mul-held
overflow_mul-held c = let s = c in omega (arith, held_end _ _ _ s.requires, s.requires.few)

pub offset_bounds-prv-held : goal.offset_bounds-prv-held
offset_bounds-prv-held c = let s = c in omega (arith, held_end _ _ _ s.requires, s.requires.few)

pub bounds-prv-held : goal.bounds-prv-held
bounds-prv-held c = held_read _ _ _ c.requires

pub wide-at-requires : goal.wide-at-requires
wide-at-requires c = tt

pub loop-at-init : goal.loop-at-init
loop-at-init c = fall_starts _ _ _ c.requires _ c.wide-at.ensures

pub bounds-state-at : goal.bounds-state-at
bounds-state-at c = let l = c in at_link _ _ _ c.requires _ l.loop-at.invariant

pub offset_bounds-prv-at : goal.offset_bounds-prv-at
offset_bounds-prv-at c = let l = c in omega (arith, at_below _ _ _ c.requires _ l.loop-at.invariant, c.requires.few)

pub bounds-prv-at : goal.bounds-prv-at
bounds-prv-at c = let l = c in at_read _ _ _ c.requires _ l.loop-at.invariant

pub wide-at-requires-in-loop-at : goal.wide-at-requires-in-loop-at
wide-at-requires-in-loop-at c = tt

pub loop-at-smaller : goal.loop-at-smaller
loop-at-smaller c =
    let l = c in let r = c.requires in
    fall_less _ _ _ r _ l.loop-at.invariant (read_shut c.args.state.now _ (at_link _ _ _ r _ l.loop-at.invariant) c.loop-at-test.true) _
    c.wide-at-in-loop-at.ensures

pub loop-at-preserved : goal.loop-at-preserved
loop-at-preserved c =
    let l = c in let r = c.requires in
    fall_on _ _ _ r _ l.loop-at.invariant (read_shut c.args.state.now _ (at_link _ _ _ r _ l.loop-at.invariant) c.loop-at-test.true) _
    c.wide-at-in-loop-at.ensures

pub returns : goal.returns
returns c =
    let l = c in let r = c.requires in
    let o = read_unvisited c.args.state.now _ (at_link _ _ _ r _ l.loop-at.invariant) c.loop-at-test.false in record {
      next_below_says = fall_ends _ _ _ r _ l.loop-at.invariant o;
      result_value = o;
    }
