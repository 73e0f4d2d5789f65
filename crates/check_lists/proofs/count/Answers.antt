-- `check_lists::count` meets its contract: the invariant: n is how often x stands among the entries seen.
use Rattle.std.proofs.Common.{refl, arith}
use Rattle.laws.specs.Count.{count, count_more}
use Rattle.check_lists.proofs.count.Goals as goal

pub loop-e-init : goal.loop-e-init
unfolding count
loop-e-init c = (omega arith, refl)

pub loop-e-preserved : goal.loop-e-preserved
loop-e-preserved c = grind (arith, count_more)
