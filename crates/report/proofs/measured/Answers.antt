-- `measured`: the part of the points that is read holds the contour's, and the area of so few fits.
use native.Mathlib.Omega.{arith}
use Rattle.laws.specs.Bounds.{same64}
use Rattle.report.proofs.Measuring.{part_asked, area_exact, measured_so}
use Rattle.report.proofs.measured.Goals as goal

pub doubled_area-requires : goal.doubled_area-requires
doubled_area-requires c =
    let f = c.wide-from in let n = c.wide in
    part_asked c.args.points.now f.result n.result (omega (arith, f.ensures, n.ensures, c.requires.1)) c.requires.2 c.requires.3

pub square_millimetres-area-requires : goal.square_millimetres-area-requires
square_millimetres-area-requires c =
    let f = c.wide-from in let n = c.wide in let w = c.doubled_area in
    let h = area_exact c.args.points.now f.result n.result (omega (arith, f.ensures, n.ensures, c.requires.1)) c.requires.2 c.requires.3 w.result
    w.ensures.1 in
    rw (same64 w.result (omega arith)) h

pub returns : goal.returns
returns c =
    let f = c.wide-from in
    let n = c.wide in
    let w = c.doubled_area in let q = c.square_millimetres-area in let e = c.extent_of in
    let h = area_exact c.args.points.now f.result n.result (omega (arith, f.ensures, n.ensures, c.requires.1)) c.requires.2 c.requires.3 w.result
    w.ensures.1 in
    measured_so c.args.points.now f.result n.result c.args.first c.args.len f.ensures n.ensures q.result w.result
    c.frame_of-frame.result e.result (rw (same64 w.result (omega arith)) at q.ensures) w.ensures.0 c.frame_of-frame.ensures e.ensures
