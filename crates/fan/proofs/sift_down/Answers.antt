-- `fan::sift_down` meets its contract; the invariant: the entries are the same, and place i is none past the heap.
use native.Mathlib.Omega.{arith}
use Rattle.fan.specs.Rearranged.{moved_twice}
use Rattle.fan.specs.Orders.{Sortable, still_sortable}
use Rattle.fan.proofs.Moves.{swap_moves}
use Rattle.fan.proofs.sift_down.Goals as goal

pub later_child-c-requires-clause-sortable : goal.later_child-c-requires-clause-sortable
later_child-c-requires-clause-sortable c = still_sortable c.requires.sortable c.loop-i.invariant.1

pub stands_later-requires-clause-e_in_bounds : goal.stands_later-requires-clause-e_in_bounds
stands_later-requires-clause-e_in_bounds c =
    let sortable : let x = c.args in Sortable x.ax.now x.ay.now x.bx.now x.by.now x.aid.now c.loop-i.list =
    still_sortable c.requires.sortable c.loop-i.invariant.1 in
    (rw c.wide.ensures (sortable.links _ (omega arith)), rw c.wide-in-loop-i.ensures (sortable.links _ (omega arith)))

pub loop-i-preserved : goal.loop-i-preserved
loop-i-preserved c =
    (omega arith, moved_twice c.loop-i.invariant.1 (swap_moves _ _ (omega arith) (omega arith) c.swap.ensures.after))
