-- `print_point::write_point` meets its contract.
use mathlib.Core.List.{◌++◌}
use Rattle.print_lines.specs.Again.{again, point_left}
use Rattle.print_text.specs.Text.{text}
use Rattle.print_text.specs.Decimal.{decimal_z}
use Rattle.print_lines.specs.Lines.{point_line}
use Rattle.writing.specs.Write.{left_after, left_last, piece_fits, last_fits}
use Rattle.print_point.proofs.write_point.Goals as goal

pub write_signed-a-requires : goal.write_signed-a-requires
unfolding point_line
write_signed-a-requires c =
    let a = c.args in
    let p = decimal_z (again a.x) in
    let q = text " " in
    let r = decimal_z (again a.y) in
    let e = text "\n" in
    let l0 = point_left a.x a.y c.ranges.x c.ranges.y a.out.now a.at c.requires in
    piece_fits p (q ++ (r ++ e)) l0

pub write_text-b-requires : goal.write_text-b-requires
unfolding point_line
write_text-b-requires c =
    let s = c in
    let a = s.args in
    let p = decimal_z (again a.x) in
    let q = text " " in
    let r = decimal_z (again a.y) in
    let e = text "\n" in
    let l0 = point_left a.x a.y s.ranges.x s.ranges.y a.out.now a.at s.requires in
    let l1 = left_after p (q ++ (r ++ e)) l0 c.write_signed-a.ensures in
    piece_fits q (r ++ e) l1

pub write_signed-c-requires : goal.write_signed-c-requires
unfolding point_line
write_signed-c-requires c =
    let s = c in
    let a = s.args in
    let p = decimal_z (again a.x) in
    let q = text " " in
    let r = decimal_z (again a.y) in
    let e = text "\n" in
    let l0 = point_left a.x a.y s.ranges.x s.ranges.y a.out.now a.at s.requires in
    let l1 = left_after p (q ++ (r ++ e)) l0 c.write_signed-a.ensures in
    let l2 = left_after q (r ++ e) l1 c.write_text-b.ensures in
    piece_fits r e l2

pub write_text-requires : goal.write_text-requires
unfolding point_line
write_text-requires c =
    let s = c in
    let a = s.args in
    let p = decimal_z (again a.x) in
    let q = text " " in
    let r = decimal_z (again a.y) in
    let e = text "\n" in
    let l0 = point_left a.x a.y s.ranges.x s.ranges.y a.out.now a.at s.requires in
    let l1 = left_after p (q ++ (r ++ e)) l0 c.write_signed-a.ensures in
    let l2 = left_after q (r ++ e) l1 c.write_text-b.ensures in
    let l3 = left_after r e l2 c.write_signed-c.ensures in
    last_fits e l3

pub returns : goal.returns
unfolding point_line
returns c =
    let s = c in
    let a = s.args in
    let p = decimal_z (again a.x) in
    let q = text " " in
    let r = decimal_z (again a.y) in
    let e = text "\n" in
    let l0 = point_left a.x a.y s.ranges.x s.ranges.y a.out.now a.at s.requires in
    let l1 = left_after p (q ++ (r ++ e)) l0 c.write_signed-a.ensures in
    let l2 = left_after q (r ++ e) l1 c.write_text-b.ensures in
    let l3 = left_after r e l2 c.write_signed-c.ensures in
    left_last e l3 c.write_text.ensures
