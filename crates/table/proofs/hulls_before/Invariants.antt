-- `hulls_before`: the loop has counted the hulls that it has passed.
use Prim.Native.Nat.{◌≤◌}
use mathlib.Core.Path.{◌≡◌}
use lib.ListN.{take}
use Rattle.table.specs.Table.{hulls}
use Rattle.table.proofs.hulls_before.Given as goal

abbrev pub invariant-loop-k : goal.invariant-loop-k
invariant-loop-k l = (l.count ≤ l.k-index) × (l.count ≡ hulls (take l.k-index l.k-items))
