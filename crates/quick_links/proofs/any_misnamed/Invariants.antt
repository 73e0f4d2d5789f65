-- `quick_links::any_misnamed` meets its contract; the invariant: so far the answer tells
-- whether a link seen has wrong ids.
use Rattle.std.proofs.Common.{◌≡◌, length}
use Rattle.laws.specs.Lowest.{some}
use Rattle.quick_links.specs.Quick.{misnamed_at}
use Rattle.quick_links.proofs.any_misnamed.Given as goal

abbrev pub invariant-loop-a : goal.invariant-loop-a
invariant-loop-a l = l.wrong ≡ some (misnamed_at l.m l.aid l.bid) (length l.yielded)
