-- `print::write_contour` meets its contract.
use native.Mathlib.Omega.{arith}
use lib.ListN.{get_or}
use Rattle.print.specs.Answer.{owned_of, point_lines, contour_lines}
use Rattle.print_lines.specs.Lines.{contour_line}
use Rattle.writing.specs.Write.{left_all, left_after, left_last, piece_fits, last_fits}
use Rattle.print.proofs.write_contour.Goals as goal

pub write_contour_line-next-requires : goal.write_contour_line-next-requires
write_contour_line-next-requires c =
    let s = c in
    let a = s.args in
    let p = contour_line a.i (get_or a.contours.kind.now a.i 0) (get_or a.owner.now a.i 0) (get_or a.contours.len.now a.i 0) in
    let q = point_lines a.contours.points.now (get_or a.contours.first.now a.i 0) (get_or a.contours.len.now a.i 0) in
    let l0 = left_all a.out.now a.at (contour_lines (owned_of a.contours a.owner.now) a.i) s.requires.i_in_bounds in
    piece_fits p q l0

pub write_points-requires : goal.write_points-requires
write_points-requires c =
    let s = c in
    let a = s.args in
    let p = contour_line a.i (get_or a.contours.kind.now a.i 0) (get_or a.owner.now a.i 0) (get_or a.contours.len.now a.i 0) in
    let q = point_lines a.contours.points.now (get_or a.contours.first.now a.i 0) (get_or a.contours.len.now a.i 0) in
    let l0 = left_all a.out.now a.at (contour_lines (owned_of a.contours a.owner.now) a.i) s.requires.i_in_bounds in
    record {
      count_in_bounds = s.requires.fact.points a.i (omega arith);
      count_in_bounds_2 = last_fits q (left_after p q l0 c.write_contour_line-next.ensures);
    }

pub returns : goal.returns
returns c =
    let s = c in
    let a = s.args in
    let p = contour_line a.i (get_or a.contours.kind.now a.i 0) (get_or a.owner.now a.i 0) (get_or a.contours.len.now a.i 0) in
    let q = point_lines a.contours.points.now (get_or a.contours.first.now a.i 0) (get_or a.contours.len.now a.i 0) in
    let l0 = left_all a.out.now a.at (contour_lines (owned_of a.contours a.owner.now) a.i) s.requires.i_in_bounds in
    left_last q (left_after p q l0 c.write_contour_line-next.ensures) c.write_points.ensures
