-- `print_contour::write_contour_line` meets its contract.
use mathlib.Core.List.{◌++◌}
use Rattle.print_text.specs.Text.{text}
use Rattle.print_text.specs.Decimal.{decimal, said}
use Rattle.print_lines.specs.Lines.{role_text, contour_line}
use Rattle.writing.specs.Write.{left_all, left_after, left_last, piece_fits, last_fits}
use Rattle.print_contour.proofs.write_contour_line.Goals as goal

pub write_decimal-a-requires : goal.write_decimal-a-requires
unfolding contour_line
write_decimal-a-requires c =
    let a = c.args in
    let p = decimal a.number in
    let q = said (role_text a.kind a.owner) a.owner in
    let r = said (text " ") a.len in
    let e = text "\n" in
    let l0 = left_all a.out.now a.at (contour_line a.number a.kind a.owner a.len) c.requires in
    piece_fits p (q ++ (r ++ e)) l0

pub write_role-b-requires : goal.write_role-b-requires
unfolding contour_line
write_role-b-requires c =
    let s = c in
    let a = s.args in
    let p = decimal a.number in
    let q = said (role_text a.kind a.owner) a.owner in
    let r = said (text " ") a.len in
    let e = text "\n" in
    let l0 = left_all a.out.now a.at (contour_line a.number a.kind a.owner a.len) s.requires in
    let l1 = left_after p (q ++ (r ++ e)) l0 c.write_decimal-a.ensures in
    piece_fits q (r ++ e) l1

pub write_said-c-requires : goal.write_said-c-requires
unfolding contour_line
write_said-c-requires c =
    let s = c in
    let a = s.args in
    let p = decimal a.number in
    let q = said (role_text a.kind a.owner) a.owner in
    let r = said (text " ") a.len in
    let e = text "\n" in
    let l0 = left_all a.out.now a.at (contour_line a.number a.kind a.owner a.len) s.requires in
    let l1 = left_after p (q ++ (r ++ e)) l0 c.write_decimal-a.ensures in
    let l2 = left_after q (r ++ e) l1 c.write_role-b.ensures in
    piece_fits r e l2

pub write_text-requires : goal.write_text-requires
unfolding contour_line
write_text-requires c =
    let s = c in
    let a = s.args in
    let p = decimal a.number in
    let q = said (role_text a.kind a.owner) a.owner in
    let r = said (text " ") a.len in
    let e = text "\n" in
    let l0 = left_all a.out.now a.at (contour_line a.number a.kind a.owner a.len) s.requires in
    let l1 = left_after p (q ++ (r ++ e)) l0 c.write_decimal-a.ensures in
    let l2 = left_after q (r ++ e) l1 c.write_role-b.ensures in
    let l3 = left_after r e l2 c.write_said-c.ensures in
    last_fits e l3

pub returns : goal.returns
unfolding contour_line
returns c =
    let s = c in
    let a = s.args in
    let p = decimal a.number in
    let q = said (role_text a.kind a.owner) a.owner in
    let r = said (text " ") a.len in
    let e = text "\n" in
    let l0 = left_all a.out.now a.at (contour_line a.number a.kind a.owner a.len) s.requires in
    let l1 = left_after p (q ++ (r ++ e)) l0 c.write_decimal-a.ensures in
    let l2 = left_after q (r ++ e) l1 c.write_role-b.ensures in
    let l3 = left_after r e l2 c.write_said-c.ensures in
    left_last e l3 c.write_text.ensures
