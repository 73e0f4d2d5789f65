-- `fan::put_in_order` meets its contract: whether it sorts or not, the entries are the same.
use Rattle.fan.specs.Orders.{still_sortable}
use Rattle.fan.proofs.put_in_order.Goals as goal

pub empty_heap-requires : goal.empty_heap-requires
empty_heap-requires c = still_sortable c.requires c.make_heap.ensures
