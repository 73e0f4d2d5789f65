-- `check_ends::apart_node` meets its contract: the lowest node with ends apart; the invariant: none below v has.
use Rattle.std.proofs.Common.{sym, ◌∙◌, arith}
use Rattle.laws.specs.Lowest.{none_if, found_if}
use Rattle.check_ends.proofs.apart_node.Goals as goal

pub returns-then-apart_in : goal.returns-then-apart_in
returns-then-apart_in c =
    sym (found_if _ _ _ (omega arith) c.loop-v.invariant
    (rw c.entries.ensures at (sym c.apart_in.ensures ∙ c.if-apart_in.true)))

pub returns : goal.returns
returns c = sym (none_if _ _ (λ k l. c.loop-v.invariant k (omega arith)))
