-- `answer_table::answer_extraction` meets its contract: what extraction gave, case by case.
use Rattle.std.specs.Prelude.{Result}
use mathlib.Core.Path.{sym, ap, subst}
use Rattle.table.specs.Table.{Table, table}
use Rattle.writing.specs.Write.{wrote_as}
use Rattle.answer_table.specs.ExtractionText.{ExtractionFits, extraction_text}
use Rattle.answer_table.proofs.answer_extraction.Goals as goal
use Rattle.turn.specs.declared.NumberedRefusal.{NumberedRefusal}
use Rattle.keep.specs.declared.Counts.{Counts}

pub answer_kept-requires : goal.answer_kept-requires
answer_kept-requires c =
    let t : Table = table c.args.points.now c.args.first.now c.args.len.now c.args.kind.now in
    let s = c in record {
      kept_fits = subst (λ (e : Result Counts NumberedRefusal). ExtractionFits e t) c.in-Ok.is s.requires.extraction_fits;
      answer_bytes_in_bounds = s.requires.answer_bytes_in_bounds;
    }

pub returns-in-Err : goal.returns-in-Err
returns-in-Err c =
    let t : Table = table c.args.points.now c.args.first.now c.args.len.now c.args.kind.now in
    let s = c in
    wrote_as (ap (λ (e : Result Counts NumberedRefusal). extraction_text s.args.clockwise e t) (sym c.in-Err.is))
    c.write_refusal.ensures.write_refusal_says

pub returns-in-Ok : goal.returns-in-Ok
returns-in-Ok c =
    let t : Table = table c.args.points.now c.args.first.now c.args.len.now c.args.kind.now in
    let s = c in
    wrote_as (ap (λ (e : Result Counts NumberedRefusal). extraction_text s.args.clockwise e t) (sym c.in-Ok.is))
    c.answer_kept.ensures
