-- `fan::make_heap` meets its contract; the invariant: the entries are the same.
use Rattle.fan.specs.Orders.{still_sortable}
use Rattle.fan.proofs.make_heap.Goals as goal

pub sift_down-requires-clause-sortable : goal.sift_down-requires-clause-sortable
sift_down-requires-clause-sortable c = still_sortable c.requires c.loop-i.invariant
