-- `starts::some_odd` meets its contract; the invariant: what is found so far is of as many nodes as pairs were seen.
use Rattle.std.proofs.Common.{length}
use Rattle.starts.specs.Odds.{OddBelow}
use Rattle.starts.proofs.some_odd.Given as goal

abbrev pub invariant-loop-pair : goal.invariant-loop-pair
invariant-loop-pair l = OddBelow l.start (length l.yielded) l.some
