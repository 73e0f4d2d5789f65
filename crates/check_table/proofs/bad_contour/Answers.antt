-- `bad_contour`: the loop has passed contours that are right, and knows where the next range must begin.
use mathlib.Core.Path.{sym, ◌∙◌}
use native.Mathlib.Omega.{arith}
use borrow.Author.Count.{below_more}
use Rattle.laws.specs.Lowest.{none_if, found_if}
use Rattle.table.specs.TableLaws.{start_next}
use Rattle.check_table.proofs.bad_contour.Goals as goal

pub returns-then-contour_fault : goal.returns-then-contour_fault
returns-then-contour_fault c =
    let l = c.loop-c in
    let e = rw l.invariant.0 at c.contour_fault.ensures in
    sym (found_if _ _ _ (omega arith) l.invariant.1 (sym e ∙ c.if-contour_fault.true))

pub loop-c-preserved : goal.loop-c-preserved
loop-c-preserved c =
    let l = c.loop-c in
    let e = rw l.invariant.0 at c.contour_fault.ensures in
    (c.range_end-start.ensures ∙ sym (start_next _ _ l.c), below_more _ _ l.invariant.1 (sym e ∙ c.if-contour_fault.false))

pub returns : goal.returns
returns c = sym (none_if _ _ (λ k m. c.loop-c.invariant.1 k (omega arith)))
