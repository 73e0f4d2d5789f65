-- `each_link::bad_link` meets its contract: the lowest link that is wrong; the invariant: none below k is.
use Rattle.std.proofs.Common.{sym, ◌∙◌, arith, below_more}
use Rattle.laws.specs.Lowest.{none_if, found_if}
use Rattle.each_link.proofs.bad_link.Goals as goal

pub returns-then-link_wrong : goal.returns-then-link_wrong
returns-then-link_wrong c = sym (found_if _ _ _ (omega arith) c.loop-k.invariant (sym c.link_wrong.ensures ∙ c.if-link_wrong.true))

pub loop-k-preserved : goal.loop-k-preserved
loop-k-preserved c = below_more _ _ c.loop-k.invariant (sym c.link_wrong.ensures ∙ c.if-link_wrong.false)

pub returns : goal.returns
returns c = sym (none_if _ _ (λ k l. c.loop-k.invariant k (omega arith)))
