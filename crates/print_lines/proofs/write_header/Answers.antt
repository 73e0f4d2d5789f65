-- `print::write_header` meets its contract.
use mathlib.Core.List.{◌++◌}
use Rattle.print_text.specs.Text.{text}
use Rattle.print_text.specs.Decimal.{said}
use Rattle.print_lines.specs.Lines.{header}
use Rattle.writing.specs.Write.{left_from_0, left_after, left_last, piece_fits, last_fits}
use Rattle.print_lines.proofs.write_header.Goals as goal

pub write_said-a-requires : goal.write_said-a-requires
unfolding header
write_said-a-requires c =
    let start = c in
    let a = start.args in
    let p = said (text "contours ") a.t.contours in
    let q = said (text " shapes ") a.t.shapes in
    let r = said (text " points ") a.t.points in
    let s = said (text " dropped ") a.t.dropped in
    let e = text "\n" in
    let l0 = left_from_0 a.out.now (header a.t) start.requires in
    piece_fits p (q ++ (r ++ (s ++ e))) l0

pub write_said-b-requires : goal.write_said-b-requires
unfolding header
write_said-b-requires c =
    let start = c in
    let a = start.args in
    let p = said (text "contours ") a.t.contours in
    let q = said (text " shapes ") a.t.shapes in
    let r = said (text " points ") a.t.points in
    let s = said (text " dropped ") a.t.dropped in
    let e = text "\n" in
    let l0 = left_from_0 a.out.now (header a.t) start.requires in
    let l1 = left_after p (q ++ (r ++ (s ++ e))) l0 c.write_said-a.ensures in
    piece_fits q (r ++ (s ++ e)) l1

pub write_said-c-requires : goal.write_said-c-requires
unfolding header
write_said-c-requires c =
    let start = c in
    let a = start.args in
    let p = said (text "contours ") a.t.contours in
    let q = said (text " shapes ") a.t.shapes in
    let r = said (text " points ") a.t.points in
    let s = said (text " dropped ") a.t.dropped in
    let e = text "\n" in
    let l0 = left_from_0 a.out.now (header a.t) start.requires in
    let l1 = left_after p (q ++ (r ++ (s ++ e))) l0 c.write_said-a.ensures in
    let l2 = left_after q (r ++ (s ++ e)) l1 c.write_said-b.ensures in
    piece_fits r (s ++ e) l2

pub write_said-d-requires : goal.write_said-d-requires
unfolding header
write_said-d-requires c =
    let start = c in
    let a = start.args in
    let p = said (text "contours ") a.t.contours in
    let q = said (text " shapes ") a.t.shapes in
    let r = said (text " points ") a.t.points in
    let s = said (text " dropped ") a.t.dropped in
    let e = text "\n" in
    let l0 = left_from_0 a.out.now (header a.t) start.requires in
    let l1 = left_after p (q ++ (r ++ (s ++ e))) l0 c.write_said-a.ensures in
    let l2 = left_after q (r ++ (s ++ e)) l1 c.write_said-b.ensures in
    let l3 = left_after r (s ++ e) l2 c.write_said-c.ensures in
    piece_fits s e l3

pub write_text-requires : goal.write_text-requires
unfolding header
write_text-requires c =
    let start = c in
    let a = start.args in
    let p = said (text "contours ") a.t.contours in
    let q = said (text " shapes ") a.t.shapes in
    let r = said (text " points ") a.t.points in
    let s = said (text " dropped ") a.t.dropped in
    let e = text "\n" in
    let l0 = left_from_0 a.out.now (header a.t) start.requires in
    let l1 = left_after p (q ++ (r ++ (s ++ e))) l0 c.write_said-a.ensures in
    let l2 = left_after q (r ++ (s ++ e)) l1 c.write_said-b.ensures in
    let l3 = left_after r (s ++ e) l2 c.write_said-c.ensures in
    let l4 = left_after s e l3 c.write_said-d.ensures in
    last_fits e l4

pub returns : goal.returns
unfolding header
returns c =
    let start = c in
    let a = start.args in
    let p = said (text "contours ") a.t.contours in
    let q = said (text " shapes ") a.t.shapes in
    let r = said (text " points ") a.t.points in
    let s = said (text " dropped ") a.t.dropped in
    let e = text "\n" in
    let l0 = left_from_0 a.out.now (header a.t) start.requires in
    let l1 = left_after p (q ++ (r ++ (s ++ e))) l0 c.write_said-a.ensures in
    let l2 = left_after q (r ++ (s ++ e)) l1 c.write_said-b.ensures in
    let l3 = left_after r (s ++ e) l2 c.write_said-c.ensures in
    let l4 = left_after s e l3 c.write_said-d.ensures in
    left_last e l4 c.write_text.ensures
