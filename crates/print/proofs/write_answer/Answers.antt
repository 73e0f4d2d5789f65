-- `print::write_answer` meets its contract.
use native.Mathlib.Nat.{le_trans}
use native.Mathlib.Omega.{arith}
use Rattle.std.proofs.Common.{rules}
use Rattle.print.specs.Answer.{owned_table, contours_from, printed}
use Rattle.print_lines.specs.Lines.{header}
use Rattle.writing.specs.Write.{left_from_0, left_after, left_last, piece_fits, last_fits, wrote_cut}
use Rattle.print.specs.Lengths.{answer_short}
use Rattle.print.proofs.write_answer.Goals as goal

pub write_header-next-requires : goal.write_header-next-requires
write_header-next-requires c =
    let s = c in
    let a = s.args in
    let t = owned_table a.points.now a.first.now a.len.now a.kind.now a.owner.now in
    let p = header a.totals in
    let q = contours_from t 0 a.totals.contours in
    let short = answer_short t a.totals s.requires.fact (search rules) in
    let l0 = left_from_0 a.out.now (printed t a.totals) (le_trans short s.requires.answer_bytes_in_bounds) in
    omega (arith, piece_fits p q l0)

pub write_contours-requires : goal.write_contours-requires
write_contours-requires c =
    let s = c in
    let a = s.args in
    let t = owned_table a.points.now a.first.now a.len.now a.kind.now a.owner.now in
    let p = header a.totals in
    let q = contours_from t 0 a.totals.contours in
    let short = answer_short t a.totals s.requires.fact (search rules) in
    let l0 = left_from_0 a.out.now (printed t a.totals) (le_trans short s.requires.answer_bytes_in_bounds) in record {
      fact = s.requires.fact.ranges;
      contours_in_bounds = last_fits q (left_after p q l0 c.write_header-next.ensures);
    }

pub returns : goal.returns
returns c =
    let s = c in
    let a = s.args in
    let t = owned_table a.points.now a.first.now a.len.now a.kind.now a.owner.now in
    let p = header a.totals in
    let q = contours_from t 0 a.totals.contours in
    let short = answer_short t a.totals s.requires.fact (search rules) in
    let l0 = left_from_0 a.out.now (printed t a.totals) (le_trans short s.requires.answer_bytes_in_bounds) in
    let w = left_last q (left_after p q l0 c.write_header-next.ensures) c.write_contours.ensures in record {
      fact_2 = w;
      cut = wrote_cut w;
    }
