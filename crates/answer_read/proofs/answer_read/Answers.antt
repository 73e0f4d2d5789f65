-- `answer_read::answer_read` meets its contract: what reading gave, case by case.
use Rattle.std.specs.Prelude.{Result}
use mathlib.Core.Path.{sym, ap, subst, ◌∙◌}
use Rattle.format.specs.File.{FileLists, file_lists}
use Rattle.writing.specs.Write.{wrote_as}
use Rattle.answer_read.specs.ReadText.{ReadFits, read_text, read_states}
use Rattle.answer_read.proofs.answer_read.Goals as goal
use Rattle.turn.specs.declared.NumberedRefusal.{NumberedRefusal}
use Rattle.format.specs.declared.FileCounts.{FileCounts}

pub answer_fronts-requires : goal.answer_fronts-requires
answer_fronts-requires c =
    let b : FileLists = file_lists c.args.ax.now c.args.ay.now c.args.bx.now c.args.by.now c.args.a_id.now
    c.args.b_id.now
    c.args.top.now c.args.state.now c.args.start.now c.args.list.now in
    record {
      fact = subst (λ (r : Result FileCounts NumberedRefusal). ReadFits r b) c.in-Ok.is c.requires.fact;
      answer_bytes_in_bounds = c.requires.answer_bytes_in_bounds;
    }

pub returns-in-Err : goal.returns-in-Err
returns-in-Err c =
    let b : FileLists = file_lists c.args.ax.now c.args.ay.now c.args.bx.now c.args.by.now c.args.a_id.now
    c.args.b_id.now
    c.args.top.now c.args.state.now c.args.start.now c.args.list.now in
    let e = sym c.in-Err.is in (
      wrote_as (ap (λ (r : Result FileCounts NumberedRefusal). read_text r b) e) c.write_refusal.ensures.write_refusal_says,
      ap (λ (r : Result FileCounts NumberedRefusal). read_states r b) e,
    )

pub returns-in-Ok : goal.returns-in-Ok
returns-in-Ok c =
    let b : FileLists = file_lists c.args.ax.now c.args.ay.now c.args.bx.now c.args.by.now c.args.a_id.now
    c.args.b_id.now
    c.args.top.now c.args.state.now c.args.start.now c.args.list.now in
    let e = sym c.in-Ok.is in
    let w = c.answer_fronts.ensures in
    (wrote_as (ap (λ (r : Result FileCounts NumberedRefusal). read_text r b) e) w.0, w.1 ∙ ap (λ (r : Result FileCounts NumberedRefusal). read_states r b) e)
