-- `fan::empty_heap` meets its contract; the invariant: the entries are the same.
use native.Mathlib.Omega.{arith}
use Prim.Native.Nat.{◌-◌}
use Rattle.fan.specs.Rearranged.{Rearranged, moved_twice}
use Rattle.fan.specs.Orders.{still_sortable}
use Rattle.fan.proofs.Moves.{swap_moves}
use Rattle.fan.proofs.empty_heap.Goals as goal

pub sift_down-requires-clause-sortable : goal.sift_down-requires-clause-sortable
sift_down-requires-clause-sortable c =
    still_sortable c.requires
    (moved_twice c.loop-n.invariant (swap_moves 0 (c.loop-n.n - 1) (omega arith) (omega arith) c.swap.ensures.after))

pub loop-n-preserved : goal.loop-n-preserved
loop-n-preserved c =
    let moved : Rearranged c.args.list.now c.swap.new.self =
    moved_twice c.loop-n.invariant (swap_moves 0 (c.loop-n.n - 1) (omega arith) (omega arith) c.swap.ensures.after) in
    moved_twice moved c.sift_down.ensures
