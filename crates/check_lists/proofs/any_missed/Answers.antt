-- `check_lists::any_missed` meets its contract: some link is missed; the invariant: none below k is.
use Rattle.std.proofs.Common.{sym, arith, below_more}
use Rattle.laws.specs.Lowest.{some_yes, some_no}
use Rattle.check_lists.proofs.any_missed.Goals as goal

pub returns-then-not_once : goal.returns-then-not_once
returns-then-not_once c =
    sym (some_yes _ _ _ (omega arith) c.loop-k.invariant
    (rw (
      c.not_once.ensures,
      c.wide.ensures,
      c.not_once-in-loop-k.ensures,
      c.wide-in-loop-k.ensures,
    ) at c.if-not_once.true))

pub loop-k-preserved : goal.loop-k-preserved
loop-k-preserved c =
    below_more _ _ c.loop-k.invariant
    (rw (
      c.not_once.ensures,
      c.wide.ensures,
      c.not_once-in-loop-k.ensures,
      c.wide-in-loop-k.ensures,
    ) at c.if-not_once.false)

pub returns : goal.returns
returns c = sym (some_no _ _ (λ k l. c.loop-k.invariant k (omega arith)))
