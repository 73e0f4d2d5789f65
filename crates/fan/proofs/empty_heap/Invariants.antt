-- `fan::empty_heap` meets its contract; the invariant: the entries are the same.
use Rattle.fan.specs.Rearranged.{Rearranged}
use Rattle.fan.proofs.empty_heap.Given as goal

abbrev pub invariant-loop-n : goal.invariant-loop-n
invariant-loop-n l = Rearranged l.initial.list l.list
