-- `check_lists::count` meets its contract: the invariant: n is how often x stands among the entries seen.
use Rattle.std.proofs.Common.{◌≡◌, ◌≤◌, take}
use Rattle.laws.specs.Count.{count}
use Rattle.check_lists.proofs.count.Given as goal

abbrev pub invariant-loop-e : goal.invariant-loop-e
invariant-loop-e l = (l.n ≤ l.e-index) × (l.n ≡ count l.x (take l.e-index l.list))
