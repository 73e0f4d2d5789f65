-- `fill_lists`: contour by contour, as `Filling` says.
use mathlib.Core.Path.{ap, ◌∙◌}
use native.Mathlib.Omega.{arith}
use lib.Seq.{take-length}
use Rattle.table.specs.Table.{Table, table_of, hulls}
use Rattle.report_all.specs.ColumnLaws.{report_at_is}
use Rattle.report_all.proofs.Filling.{filling_start, filling_more, filling_room, filling_end}
use Rattle.report_all.proofs.fill_lists.Goals as goal

pub loop-c-init : goal.loop-c-init
loop-c-init c = filling_start _ _ _

pub report_at-r-requires : goal.report_at-r-requires
report_at-r-requires c = (c.requires.fact.0, c.loop-c-test.true, c.requires.fact.1)

pub store-requires : goal.store-requires
store-requires c =
    filling_room c.requires.fact.0 c.requires.room c.loop-c.invariant c.loop-c-test.true

pub loop-c-preserved : goal.loop-c-preserved
loop-c-preserved c =
    let p = c.requires.fact in
    let t : Table = table_of c.args.contours in
    let hulls_are = c.hulls_before-hulls.ensures.0 ∙ ap hulls (take-length t.kind) in
    let is = c.report_at-r.ensures
    ∙ report_at_is t c.args.owner.now c.loop-c.c c.loop-c.shape c.hulls_before-hulls.result p.0 p.1
    c.loop-c-test.true c.loop-c.invariant.shape_is hulls_are in
    filling_more p.0 c.requires.room c.loop-c.invariant _ _ _ _ _ c.loop-c-test.true is
    c.values_of.ensures c.store.ensures
    c.one_more_if_hull-shape.ensures c.one_more_if_missing-missing.ensures

pub returns : goal.returns
returns c = filling_end c.requires.fact.0 c.requires.room c.loop-c.invariant (omega arith)
