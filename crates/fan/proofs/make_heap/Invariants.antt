-- `fan::make_heap` meets its contract; the invariant: the entries are the same.
use Rattle.fan.specs.Rearranged.{Rearranged}
use Rattle.fan.proofs.make_heap.Given as goal

abbrev pub invariant-loop-i : goal.invariant-loop-i
invariant-loop-i l = Rearranged l.initial.list l.list
