-- `answer_table::answer_table` meets its contract: binding, then printing.
use mathlib.Core.Path.{refl, ap, ◌∙◌}
use Rattle.table.specs.Table.{Table, table}
use Rattle.answer_table.proofs.Prints.{printable, bound_text_lem}
use Rattle.writing.specs.Write.{wrote_as}
use Rattle.print.specs.Answer.{printed_refusal}
use Rattle.answer_table.proofs.answer_table.Goals as goal

pub write_answer-requires : goal.write_answer-requires
write_answer-requires c =
    let t : Table = table c.args.points.now c.args.first.now c.args.len.now c.args.kind.now in
    let s = c in record {
      fact = printable t s.args.clockwise c.in-Ok.ensures.bind_says refl;
      answer_bytes_in_bounds = s.requires;
    }

pub returns-in-Err : goal.returns-in-Err
returns-in-Err c =
    let t : Table = table c.args.points.now c.args.first.now c.args.len.now c.args.kind.now in
    let s = c in
    wrote_as
    (ap (λ n. printed_refusal n c.in-Err.refusal.place) c.number.ensures
    ∙ bound_text_lem t s.args.clockwise c.in-Err.ensures.bind_says _ refl)
    c.write_refusal.ensures.write_refusal_says

pub returns-in-Ok : goal.returns-in-Ok
returns-in-Ok c =
    let t : Table = table c.args.points.now c.args.first.now c.args.len.now c.args.kind.now in
    let s = c in
    wrote_as (bound_text_lem t s.args.clockwise c.in-Ok.ensures.bind_says _ refl) c.write_answer.ensures.fact_2
