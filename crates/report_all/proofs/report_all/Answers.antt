-- `report_all`: by what check 10 answers, each case by its law.
use Rattle.std.specs.Prelude.{Result, Err}
use Rattle.std.proofs.lemmas.Result.{err_from_is_err_and}
use mathlib.Core.Path.{sym, ap, ◌∙◌}
use Rattle.turn.specs.declared.Refusal.{Refusal}
use Rattle.table.specs.Table.{Table, table_of}
use Rattle.table.specs.TableChecks.{table_checked}
use Rattle.report_all.specs.Columns.{Columns, columns, reporting}
use Rattle.report_all.specs.declared.records.Filled.{Filled}
use Rattle.report_all.specs.ColumnLaws.{fine_room, all_filled, all_refused}
use Rattle.report_all.proofs.Filling.{least}
use Rattle.report_all.proofs.report_all.Goals as goal

pub fill_lists-missing-requires : goal.fill_lists-missing-requires
fill_lists-missing-requires c =
    let t_of : Table = table_of c.args.contours in
    let lists : Columns = columns c.args.area.now c.args.left.now c.args.bottom.now c.args.right.now c.args.top.now in
    let h = fine_room t_of c.args.owner.now lists
    (ap (table_checked t_of) (least _ _ _ _ _ _ c.min.ensures c.min-2.ensures c.min-3.ensures c.min-4.ensures c.min-room.ensures) ∙ sym c.check_table.ensures.2
    ∙ c.in_ok-check_table.was) in
    record { fact = h.0; room = h.1 }

pub returns : goal.returns
returns c =
    let t_of : Table = table_of c.args.contours in
    let lists : Columns = columns c.args.area.now c.args.left.now c.args.bottom.now c.args.right.now c.args.top.now in
    let f = c.fill_lists-missing.new in
    all_filled t_of c.args.owner.now lists c.fill_lists-missing.result (columns f.area f.left f.bottom f.right f.top)
    (ap (table_checked t_of) (least _ _ _ _ _ _ c.min.ensures c.min-2.ensures c.min-3.ensures c.min-4.ensures c.min-room.ensures) ∙ sym c.check_table.ensures.2
    ∙ c.in_ok-check_table.was)
    c.fill_lists-missing.ensures

pub returns-in_err-check_table : goal.returns-in_err-check_table
returns-in_err-check_table c =
    let t_of : Table = table_of c.args.contours in
    let lists : Columns = columns c.args.area.now c.args.left.now c.args.bottom.now c.args.right.now c.args.top.now in
    let p = err_from_is_err_and c.from_residual.result c.from_residual.ensures.1 in
    ap (λ (r : Result Filled Refusal). reporting r lists) (p.1 ∙ ap Err p.2) ∙ all_refused t_of c.args.owner.now lists c.in_err-check_table.field-0.0
    (ap (table_checked t_of) (least _ _ _ _ _ _ c.min.ensures c.min-2.ensures c.min-3.ensures c.min-4.ensures c.min-room.ensures)
    ∙ sym c.check_table.ensures.2 ∙ c.in_err-check_table.was)
