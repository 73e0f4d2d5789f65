-- `fan::sift_down` meets its contract; the invariant: the entries are the same, and place i is none past the heap.
use Prim.Native.Nat.{◌-◌, ◌≤◌}
use Rattle.fan.specs.Rearranged.{Rearranged}
use Rattle.fan.proofs.sift_down.Given as goal

abbrev pub invariant-loop-i : goal.invariant-loop-i
invariant-loop-i l = (l.i ≤ l.n) × (Rearranged l.initial.list l.list)

abbrev pub decreases-loop-i : goal.decreases-loop-i
decreases-loop-i l = l.n - l.i
