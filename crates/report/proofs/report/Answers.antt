-- `report`: by the lookup's two cases, each by its law.
use Rattle.std.specs.Prelude.{Some}
use mathlib.Core.Path.{sym, ap, ◌∙◌}
use Rattle.table.specs.Table.{Table, table_of}
use Rattle.report.specs.Reports.{values_of_report}
use Rattle.report.specs.ReportLaws.{room}
use Rattle.report.proofs.Reported.{missing_is, reported_values_lem, found_is}
use Rattle.report.proofs.report.Goals as goal

pub measured-requires : goal.measured-requires
measured-requires c =
    let t_of : Table = table_of c.args.contours in
    room t_of c.args.owner.now c.args.contour _ (sym c.lookup.ensures.0 ∙ c.in_ok-found.was)

pub returns : goal.returns
returns c =
    let t_of : Table = table_of c.args.contours in
    let e = ap Some c.measured.ensures ∙ found_is t_of c.args.owner.now c.args.contour _ (sym c.lookup.ensures.0 ∙ c.in_ok-found.was) in
    (e, ap values_of_report e ∙ reported_values_lem t_of c.args.owner.now c.args.contour)

pub returns-in_err-found : goal.returns-in_err-found
returns-in_err-found c =
    let t_of : Table = table_of c.args.contours in
    let e = c.from_residual.ensures ∙ missing_is t_of c.args.owner.now c.args.contour (sym c.lookup.ensures.0 ∙ c.in_err-found.was) in
    (e, ap values_of_report e ∙ reported_values_lem t_of c.args.owner.now c.args.contour)
