-- `check_lists::any_stray` meets its contract: some node has a stray entry; the invariant: none below v has.
use Rattle.std.proofs.Common.{sym, ◌∙◌, arith, below_more}
use Rattle.laws.specs.Lowest.{some_yes, some_no}
use Rattle.check_lists.proofs.any_stray.Goals as goal

pub returns-then-stray_in : goal.returns-then-stray_in
returns-then-stray_in c =
    sym (some_yes _ _ _ (omega arith) c.loop-v.invariant
    (rw c.entries.ensures at (sym c.stray_in.ensures ∙ c.if-stray_in.true)))

pub loop-v-preserved : goal.loop-v-preserved
loop-v-preserved c = below_more _ _ c.loop-v.invariant (rw c.entries.ensures at (sym c.stray_in.ensures ∙ c.if-stray_in.false))

pub returns : goal.returns
returns c = sym (some_no _ _ (λ k l. c.loop-v.invariant k (omega arith)))
