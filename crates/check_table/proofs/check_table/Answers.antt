-- `check_table`: the four ways out, each by its law.
use mathlib.Core.Path.{◌≡◌, sym, ◌∙◌}
use mathlib.Core.Bool.{false}
use Rattle.turn.specs.Refusals.{tells}
use Rattle.table.specs.Table.{table_of}
use Rattle.check_table.proofs.Answers.{fit, table_misfit, table_unended, table_bad, table_fine}
use Rattle.check_table.proofs.check_table.Goals as goal

pub returns-then-misfit : goal.returns-then-misfit
returns-then-misfit c = tells (table_misfit _ _ (sym c.misfit.ensures ∙ c.if-misfit.true))

pub returns-then-ranges_end-contours : goal.returns-then-ranges_end-contours
returns-then-ranges_end-contours c =
    let fitted : fit (table_of c.args.contours) c.args.owners ≡ false = sym c.misfit.ensures ∙ c.if-misfit.false in
    tells (table_unended _ c.args.owners _ fitted
    c.ranges_end.ensures c.if-ranges_end-contours.true)

pub returns-in-Some : goal.returns-in-Some
returns-in-Some c =
    let fitted : fit (table_of c.args.contours) c.args.owners ≡ false = sym c.misfit.ensures ∙ c.if-misfit.false in
    tells (table_bad _ c.args.owners _
    fitted c.ranges_end.ensures c.if-ranges_end-contours.false
    _ (sym c.bad_contour.ensures ∙ c.in-Some.is))

pub returns : goal.returns
returns c =
    let fitted : fit (table_of c.args.contours) c.args.owners ≡ false = sym c.misfit.ensures ∙ c.if-misfit.false in
    tells (table_fine _ c.args.owners _
    fitted c.ranges_end.ensures c.if-ranges_end-contours.false
    (sym c.bad_contour.ensures ∙ c.in_default.is))
