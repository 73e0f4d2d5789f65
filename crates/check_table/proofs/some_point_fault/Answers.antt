-- `some_point_fault`: the loop has passed points that are right, and has the last of them.
use Prim.Native.Nat.{◌+◌}
use mathlib.Core.Path.{sym, ap, ◌∙◌}
use native.Mathlib.Omega.{arith}
use borrow.Author.Count.{below_more}
use Rattle.laws.specs.Lowest.{some_yes, some_no}
use Rattle.table.specs.Table.{point_in}
use Rattle.table.specs.TableChecks.{point_fault}
use Rattle.check_table.proofs.Places.{previous_later, fault_at}
use Rattle.check_table.proofs.some_point_fault.Goals as goal

pub returns-then-off_grid-differ : goal.returns-then-off_grid-differ
returns-then-off_grid-differ c =
    let a = c.args in
    let l = c.loop-k in
    let p = c.point_in-here in
    let e = fault_at a.points.now a.from (a.from + a.len) l.k l.last p.result l.invariant.0 p.ensures _ _ c.off_grid.ensures c.differ.ensures in
    sym (some_yes (λ i. point_fault a.points.now a.from (a.from + a.len) (a.from + i)) a.len l.k (omega arith) l.invariant.1
    (sym e ∙ c.if-off_grid-differ.true))

pub loop-k-preserved : goal.loop-k-preserved
loop-k-preserved c =
    let a = c.args in
    let l = c.loop-k in
    let p = c.point_in-here in
    let e = fault_at a.points.now a.from (a.from + a.len) l.k l.last p.result l.invariant.0 p.ensures _ _ c.off_grid.ensures c.differ.ensures in (
      p.ensures ∙ ap (point_in a.points.now) (sym (previous_later a.from (a.from + a.len) l.k)),
      below_more _ _ l.invariant.1 (sym e ∙ c.if-off_grid-differ.false),
    )

pub returns : goal.returns
returns c =
    let a = c.args in
    sym (some_no (λ i. point_fault a.points.now a.from (a.from + a.len) (a.from + i)) a.len (λ k l. c.loop-k.invariant.1 k (omega arith)))
