-- `fan::arrange` meets its contract; the invariant: the copy has every node's entries, in some order.
use native.Mathlib.Omega.{arith}
use Prim.Native.Nat.{◌+◌, ◌≤◌}
use lib.ListN.{length}
use Rattle.graph.specs.Total.{starts_within}
use Rattle.fan.proofs.Parts.{arranged_part}
use Rattle.fan.proofs.arrange.Goals as goal

pub loop-v-preserved : goal.loop-v-preserved
loop-v-preserved c =
    arranged_part c.requires.rising.0 c.loop-v.invariant c.loop-v.v (omega arith) c.wide-from.result c.wide-to.result
    c.wide-from.ensures c.wide-to.ensures c.order_node.ensures.rearranged c.order_node.ensures.here_unchanged

pub slice_bounds-order_node-end : goal.slice_bounds-order_node-end
slice_bounds-order_node-end c =
    let within : c.wide-to.result ≤ length c.loop-v.copy =
    omega (arith, starts_within c.requires.rising.0 (c.loop-v.v + 1) (omega arith)) in
    within
